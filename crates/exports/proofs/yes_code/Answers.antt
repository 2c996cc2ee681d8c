use Rattle.exports.proofs.Cases.{told_yes_code, refused_yes_code}
use Rattle.exports.proofs.yes_code.Goals as goal

pub returns-in-Ok : goal.returns-in-Ok
returns-in-Ok c = told_yes_code _ c.in-Ok.is c.from.ensures

pub returns-in-Err : goal.returns-in-Err
returns-in-Err c = refused_yes_code c.in-Err.is c.refusal_code.ensures.value
