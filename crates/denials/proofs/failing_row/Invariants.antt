use Rattle.decide.proofs.Left.{Left}
use Rattle.denials.proofs.Rights.{PermittedBelow}
use Rattle.denials.proofs.failing_row.Given as goal

abbrev pub invariant-loop-left : goal.invariant-loop-left
invariant-loop-left l = Left l.rights l.r l.left × PermittedBelow l.mem l.q l.rights l.r

abbrev pub decreases-loop-left : goal.decreases-loop-left
decreases-loop-left l = l.left
