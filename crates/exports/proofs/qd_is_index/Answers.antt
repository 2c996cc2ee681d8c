use Rattle.exports.proofs.Carried.{asked_code}
use Rattle.exports.proofs.qd_is_index.Goals as goal

pub returns : goal.returns
returns c = search asked_code
