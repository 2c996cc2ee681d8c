-- `bits::Cursor::take` meets its contract: in each turn the bits before the place p are taken, n - left of them.
-- Assumes nothing.
use Prim.Native.Nat.{◌-◌, ◌≤◌}
use Rattle.bits.specs.Cursor.{There, Taken}
use Rattle.bits.proofs.Cursor.take.Given as goal

abbrev pub invariant-loop-left : goal.invariant-loop-left
invariant-loop-left l = (l.left ≤ l.n) × There l.s l.initial.p l.n × Taken l.s l.initial.p (l.n - l.left) l.value l.p

abbrev pub decreases-loop-left : goal.decreases-loop-left
decreases-loop-left l = l.left
