use Prim.Native.Nat.{◌≤◌}
use Rattle.table.specs.Layout.{assignment_count}
use Rattle.table.specs.Facts.{AmongFirst}
use Rattle.climb.specs.Queued.{Grown}
use Rattle.climb.proofs.offer_containers.Given as goal

abbrev pub invariant-loop-i : goal.invariant-loop-i
invariant-loop-i l = (l.i ≤ assignment_count l.mem) × Grown (AmongFirst l.mem l.i l.x) l.initial.seen l.initial.queue l.tail l.seen l.queue l.t
