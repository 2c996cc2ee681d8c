use Rattle.std.proofs.Common.{refl}
use Rattle.rule.proofs.Sighted.{sees_bit}
use Rattle.rule.proofs.IndexedSight.sees.Goals as goal

pub returns : goal.returns
returns c = sees_bit _ _ _ refl c.bit.ensures
