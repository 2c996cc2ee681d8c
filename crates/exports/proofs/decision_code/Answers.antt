use Rattle.exports.proofs.Cases.{decided_code, refused_decision_code}
use Rattle.exports.proofs.decision_code.Goals as goal

pub returns-in-Ok : goal.returns-in-Ok
returns-in-Ok c = decided_code c.in-Ok.is c.verdict_code.ensures

pub returns-in-Err : goal.returns-in-Err
returns-in-Err c = refused_decision_code c.in-Err.is c.refusal_code.ensures.value
