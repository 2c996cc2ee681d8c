use Rattle.decide.proofs.Allowed.{AllowedBelow}
use Rattle.held.specs.Lacking.{sight}
use Rattle.table.specs.View.{policy_of}
use Rattle.decide.proofs.Left.{Left}
use Rattle.decide.proofs.are_allowed.Given as goal

abbrev pub invariant-loop-left : goal.invariant-loop-left
invariant-loop-left g l = Left l.rights l.r l.left × AllowedBelow (sight l.mem (g.S.Sight.rows l.rows) (g.S.Sight.indexed l.rows)) (policy_of l.mem) l.q l.rights l.r

abbrev pub decreases-loop-left : goal.decreases-loop-left
decreases-loop-left g l = l.left
