use Rattle.desk.proofs.Answering.{set_put, refusal_put, verdict_put}
use Rattle.desk.proofs.put_answer.Goals as goal

pub returns-then-last-eq1 : goal.returns-then-last-eq1
returns-then-last-eq1 c = search set_put

pub returns-in-Ok : goal.returns-in-Ok
returns-in-Ok c = search verdict_put

pub returns-in-Err : goal.returns-in-Err
returns-in-Err c = search (refusal_put, c.in-Err.ensures)
