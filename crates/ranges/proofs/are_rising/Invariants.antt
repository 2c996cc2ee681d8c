use Rattle.ranges.proofs.InOrder.{RiseFrom}
use Rattle.ranges.proofs.are_rising.Given as goal

abbrev pub invariant-loop-i : goal.invariant-loop-i
invariant-loop-i l = RiseFrom l.mem l.base l.stride l.n l.i
