use Rattle.std.proofs.Common.{refl}
use Rattle.rule.proofs.Sighted.{sees_mark}
use Rattle.rule.proofs.ClimbedSight.sees.Goals as goal

pub returns : goal.returns
returns c = sees_mark _ _ _ refl c.mark.ensures
