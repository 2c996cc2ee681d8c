use Rattle.exports.proofs.Carried.{coded}
use Rattle.exports.proofs.qd_create_prohibition.Goals as goal

pub returns : goal.returns
returns c = search coded
