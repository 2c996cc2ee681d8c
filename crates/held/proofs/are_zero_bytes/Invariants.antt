use Rattle.held.proofs.Eights.{ZeroTo}
use Rattle.held.proofs.are_zero_bytes.Given as goal

abbrev pub invariant-loop-i : goal.invariant-loop-i
invariant-loop-i l = ZeroTo l.rows l.from l.sum l.i
