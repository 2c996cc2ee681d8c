use Prim.Native.Nat.{◌-◌}
use Rattle.held.proofs.Passing.{NoClass}
use Rattle.held.proofs.next_class.Given as goal

abbrev pub invariant-loop-d : goal.invariant-loop-d
invariant-loop-d l = NoClass l.mem l.rows l.x l.c 512 l.d

abbrev pub decreases-loop-d : goal.decreases-loop-d
decreases-loop-d l = 512 - l.d
