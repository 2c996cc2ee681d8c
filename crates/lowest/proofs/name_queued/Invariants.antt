use Prim.Native.Nat.{◌+◌}
use Rattle.lowest.specs.Marked.{FirstQueued}
use Rattle.lowest.proofs.name_queued.Given as goal

abbrev pub invariant-loop-c : goal.invariant-loop-c
invariant-loop-c l = FirstQueued l.queue l.tail (l.tail + l.c-index) l.i l.initial.names l.names
