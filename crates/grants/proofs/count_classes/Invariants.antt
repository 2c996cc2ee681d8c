use Prim.Native.Nat.{◌-◌}
use Rattle.grants.proofs.Classes.{CountedTo}
use Rattle.grants.proofs.count_classes.Given as goal

abbrev pub invariant-loop-c : goal.invariant-loop-c
invariant-loop-c l = CountedTo l.mem l.q l.from l.n

abbrev pub decreases-loop-c : goal.decreases-loop-c
decreases-loop-c l = 512 - l.from
