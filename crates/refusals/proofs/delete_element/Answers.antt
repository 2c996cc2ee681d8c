use Rattle.std.proofs.Common.{ap, not}
use Rattle.refusals.proofs.Named.{there_positive}
use Rattle.refusals.proofs.delete_element.Goals as goal

pub is_in_use-requires-clause-le_x : goal.is_in_use-requires-clause-le_x
is_in_use-requires-clause-le_x c = there_positive _ _ c.is_there.ensures (ap not c.if-not-is_there.false)
