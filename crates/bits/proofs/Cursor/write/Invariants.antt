-- `bits::Cursor::write` meets its contract: in each turn the bits before the place p are written, the upper n - left of the n.
-- Assumes nothing.
use Prim.Native.Nat.{◌-◌, ◌/◌, ◌^◌, ◌≤◌}
use Rattle.bits.specs.Cursor.{There, Written}
use Rattle.bits.proofs.Cursor.write.Given as goal

abbrev pub invariant-loop-left : goal.invariant-loop-left
invariant-loop-left l = (l.left ≤ l.n) × There l.initial.out l.initial.p l.n × Written l.initial.out l.out l.initial.p (l.n - l.left) (l.v / 2 ^ l.left) l.p

abbrev pub decreases-loop-left : goal.decreases-loop-left
decreases-loop-left l = l.left
