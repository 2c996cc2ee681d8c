use Rattle.lowest.proofs.Setting.{SetTo}
use Rattle.lowest.proofs.Above.{lowered_at}
use Rattle.lowest.proofs.name_above.Given as goal

abbrev pub invariant-loop-c : goal.invariant-loop-c
invariant-loop-c l = SetTo (lowered_at l.mem l.i l.initial.names) l.c l.initial.names l.names
