use Rattle.group.proofs.Moves.{Closed}
use Rattle.group.proofs.close_gap.Given as goal

-- the first i words are moved
abbrev pub invariant-loop-i : goal.invariant-loop-i
invariant-loop-i l = Closed l.initial.mem l.at l.n l.k l.i l.mem
