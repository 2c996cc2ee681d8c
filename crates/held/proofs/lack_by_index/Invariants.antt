use Prim.Native.Nat.{◌-◌}
use Rattle.held.proofs.Turns.{FarBits, AtBits}
use Rattle.held.proofs.lack_by_index.Given as goal

abbrev pub invariant-loop-from : goal.invariant-loop-from
invariant-loop-from l = AtBits l.mem l.idx l.q l.associations.end l.c l.associations.start l.given

abbrev pub decreases-loop-from : goal.decreases-loop-from
decreases-loop-from l = l.associations.end - l.associations.start

abbrev pub invariant-classes : goal.invariant-classes
invariant-classes l = FarBits l.mem l.idx l.q l.associations.end l.from l.lacked l.associations.start l.given

abbrev pub decreases-classes : goal.decreases-classes
decreases-classes l = 512 - l.from
