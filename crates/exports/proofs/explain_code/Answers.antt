use Rattle.exports.proofs.Cases.{explained_code, refused_rows_code}
use Rattle.exports.proofs.explain_code.Goals as goal

pub returns-in-Ok : goal.returns-in-Ok
returns-in-Ok c = explained_code c.in-Ok.is c.rows_code.ensures

pub returns-in-Err : goal.returns-in-Err
returns-in-Err c = refused_rows_code c.in-Err.is c.refusal_code.ensures.value c.pair.ensures
