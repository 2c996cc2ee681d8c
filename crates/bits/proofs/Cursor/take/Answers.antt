-- `bits::Cursor::take` meets its contract: in each turn the bits before the place p are taken, n - left of them.
-- Assumes nothing.
use Prim.Native.Nat.{◌-◌, ◌%◌, ◌≤◌, ◌<◌}
use native.Mathlib.Omega.{arith}
use borrow.Author.Rules.{rules}
use Rattle.bits.proofs.Turns.{take_start, take_fits, take_turn, take_end}
use Rattle.bits.proofs.Cursor.take.Goals as goal

pub loop-left-init : goal.loop-left-init
loop-left-init c = (omega arith, search rules, search take_start)

pub join-value-requires : goal.join-value-requires
join-value-requires c =
    let more : c.min-t.result ≤ c.loop-left.left = omega arith in
    (omega arith, search take_fits)

pub loop-left-preserved : goal.loop-left-preserved
loop-left-preserved c =
    let some : 0 < c.min-t.result = omega arith in
    let part : c.min-t.result ≤ 8 - c.loop-left.p % 8 = omega arith in
    let more : c.min-t.result ≤ c.loop-left.left = omega arith in
    (omega arith, search rules, search take_turn)

pub returns : goal.returns
returns c = search take_end
