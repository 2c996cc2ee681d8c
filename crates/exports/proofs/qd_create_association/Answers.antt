use Rattle.exports.proofs.Carried.{coded}
use Rattle.exports.proofs.qd_create_association.Goals as goal

pub returns : goal.returns
returns c = search coded
