use Rattle.decide.proofs.Allowed.{allowed_more, allowed_fails}
use Rattle.decide.proofs.Left.{left_next}
use Rattle.decide.proofs.are_allowed.Goals as goal

pub returns-then-not-is_allowed : goal.returns-then-not-is_allowed
returns-then-not-is_allowed g c = search allowed_fails

pub loop-left-preserved : goal.loop-left-preserved
loop-left-preserved g c = (search left_next, search allowed_more)
