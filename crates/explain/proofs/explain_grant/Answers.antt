use Rattle.explain.proofs.Granted.{grant_refused}
use Rattle.explain.proofs.explain_grant.Goals as goal

pub returns-then-out-n : goal.returns-then-out-n
returns-then-out-n c = search grant_refused
