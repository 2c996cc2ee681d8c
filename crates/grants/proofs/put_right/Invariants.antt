use Prim.Native.Nat.{◌-◌}
use Rattle.grants.proofs.Classes.{WrittenTo}
use Rattle.grants.proofs.put_right.Given as goal

abbrev pub invariant-loop-c : goal.invariant-loop-c
invariant-loop-c l = WrittenTo l.mem l.q l.alternative l.k l.from l.initial.out l.at l.out l.t

abbrev pub decreases-loop-c : goal.decreases-loop-c
decreases-loop-c l = 512 - l.from
