-- `bits::Cursor::write` meets its contract: in each turn the bits before the place p are written, the upper n - left of the n.
-- Assumes nothing.
use Prim.Native.Nat.{◌-◌, ◌%◌, ◌≤◌, ◌<◌}
use native.Mathlib.Omega.{arith}
use borrow.Author.Rules.{rules}
use Rattle.bits.proofs.Turns.{write_start, chunk_lt, write_turn, write_end}
use Rattle.bits.proofs.Cursor.write.Goals as goal

pub loop-left-init : goal.loop-left-init
loop-left-init c = (omega arith, search rules, write_start _ _ _ _ (λ i. (c.type_inv.out i).fits))

pub patch-requires : goal.patch-requires
patch-requires c = (omega arith, search chunk_lt)

pub loop-left-preserved : goal.loop-left-preserved
loop-left-preserved c =
    let some : 0 < c.min-t.result = omega arith in
    let part : c.min-t.result ≤ 8 - c.loop-left.p % 8 = omega arith in
    let more : c.min-t.result ≤ c.loop-left.left = omega arith in
    (omega arith, search rules, search write_turn)

pub returns : goal.returns
returns c = search write_end
