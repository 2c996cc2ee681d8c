use Rattle.group.proofs.Moves.{Moved}
use Rattle.group.proofs.open_gap.Given as goal

-- the words from the i-th on are moved
abbrev pub invariant-loop-i : goal.invariant-loop-i
invariant-loop-i l = Moved l.initial.mem l.at l.n l.k l.i l.mem
