use Rattle.table.proofs.Checks.{RiseTo}
use Rattle.table.proofs.are_rising.Given as goal

abbrev pub invariant-loop-i : goal.invariant-loop-i
invariant-loop-i l = RiseTo l.mem l.n l.up l.i
