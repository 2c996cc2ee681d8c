use Rattle.exports.proofs.Cases.{refused_number}
use Rattle.exports.proofs.number.Goals as goal

pub returns-in-Err : goal.returns-in-Err
returns-in-Err c = refused_number c.in-Err.is c.from.ensures
