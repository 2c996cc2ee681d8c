use Rattle.exports.proofs.Carried.{decided_code}
use Rattle.exports.proofs.qd_decide.Goals as goal

pub returns : goal.returns
returns c = search decided_code
