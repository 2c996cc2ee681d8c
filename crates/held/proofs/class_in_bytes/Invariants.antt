use Rattle.held.proofs.Passing.{NoClass}
use Prim.Native.Nat.{◌-◌}
use Rattle.held.proofs.class_in_bytes.Given as goal

abbrev pub invariant-loop-c : goal.invariant-loop-c
invariant-loop-c l = NoClass l.mem l.rows l.x l.d l.end l.c

abbrev pub decreases-loop-c : goal.decreases-loop-c
decreases-loop-c l = l.end - l.c
