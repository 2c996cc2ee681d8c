use Rattle.std.proofs.Common.{ap, not, ◌∙◌}
use Rattle.links.proofs.Above.{above_acyclic}
use Rattle.links.proofs.has_cycle.Goals as goal

pub returns-else-not-are_above : goal.returns-else-not-are_above
returns-else-not-are_above c = ap not c.if-not-are_above.false ∙ above_acyclic _ _ c.are_above.ensures c.if-not-are_above.false
