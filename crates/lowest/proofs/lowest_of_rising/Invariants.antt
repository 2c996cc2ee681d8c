use Prim.Native.Nat.{◌-◌}
use Rattle.lowest.proofs.Enough.{EnoughTo}
use Rattle.lowest.proofs.lowest_of_rising.Given as goal

abbrev pub invariant-loop-names : goal.invariant-loop-names
invariant-loop-names l = EnoughTo l.mem l.q l.associations.end l.c l.associations.start l.names l.seen l.queue l.tail

abbrev pub decreases-loop-names : goal.decreases-loop-names
decreases-loop-names l = l.associations.end - l.associations.start

abbrev pub invariant-loop-c : goal.invariant-loop-c
invariant-loop-c l = EnoughTo l.mem l.q l.associations.end l.from l.associations.start l.names l.seen l.queue l.tail

abbrev pub decreases-loop-c : goal.decreases-loop-c
decreases-loop-c l = 512 - l.from
