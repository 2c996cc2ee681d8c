use Rattle.links.proofs.Lifting.{Risen, Sunk}
use Rattle.links.proofs.ranks.Given as goal

abbrev pub invariant-loop-i : goal.invariant-loop-i
invariant-loop-i l = Risen l.mem l.i l.ranks

abbrev pub invariant-loop-i-2 : goal.invariant-loop-i-2
invariant-loop-i-2 l = Sunk l.mem l.i l.ranks
