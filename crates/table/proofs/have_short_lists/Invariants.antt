use Rattle.table.proofs.Checks.{ShortTo}
use Rattle.table.proofs.have_short_lists.Given as goal

abbrev pub invariant-loop-i : goal.invariant-loop-i
invariant-loop-i l = ShortTo l.mem l.n l.short l.i
