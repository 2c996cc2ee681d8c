use Rattle.lowest.specs.Named.{LowestOfFirst}
use Rattle.lowest.proofs.lowest_of_any.Given as goal

abbrev pub invariant-loop-i : goal.invariant-loop-i
invariant-loop-i l = LowestOfFirst l.mem l.q l.i l.names
