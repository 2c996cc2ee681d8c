use Rattle.exports.proofs.Cases.{refused_save_code}
use Rattle.exports.proofs.save_code.Goals as goal

pub returns-in-Err : goal.returns-in-Err
returns-in-Err c = refused_save_code c.in-Err.is c.from.ensures c.pair.ensures
