use Rattle.links.proofs.Placing.{PlacedTo}
use Rattle.links.proofs.are_all_assigned.Given as goal

abbrev pub invariant-loop-i : goal.invariant-loop-i
invariant-loop-i l = PlacedTo l.mem l.x l.i
