use Rattle.held.proofs.Turns.{FarMarked, AtMarked}
use Prim.Native.Nat.{◌-◌}
use Rattle.held.proofs.lack_by_climb.Given as goal

abbrev pub invariant-loop-given : goal.invariant-loop-given
invariant-loop-given l = AtMarked l.mem l.rows l.q l.associations.end l.c l.associations.start l.given l.queue l.tail

abbrev pub decreases-loop-given : goal.decreases-loop-given
decreases-loop-given l = l.associations.end - l.associations.start

abbrev pub invariant-classes : goal.invariant-classes
invariant-classes l = FarMarked l.mem l.rows l.q l.associations.end l.from l.lacked l.associations.start l.given l.queue l.tail

abbrev pub decreases-classes : goal.decreases-classes
decreases-classes l = 512 - l.from
