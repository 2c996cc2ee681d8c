-- Room for a group in words: what it says of the numbers, and the room for one record more or for just those that stand there.
-- Assumes nothing.
use mathlib.Core.List.{List}
use Prim.Native.Nat.{ℕ, ◌+◌, ◌*◌, ◌^◌, ◌≤◌, ◌<◌}
use native.Mathlib.Nat.{mul-le-mul_left, mul-le-mul_right}
use native.Mathlib.Omega.{arith}
use lib.ListN.{length, get_or}
use Rattle.group.specs.Group.{Fits}

-- a group's number can be counted by a word
pub count_small : {base width counter most : ℕ} {l : List ℕ} → Fits base width counter most l → most < 2 ^ 32
count_small {base} {width} {counter} {most} f =
    let e : 1 * most ≤ width * most = mul-le-mul_right most f.some in
    omega (arith, f.room, f.short, f.apart)

-- the records of a group lie in the words
pub group_within : {base width counter most : ℕ} {l : List ℕ} → Fits base width counter most l → base + width * get_or l counter 0 ≤ length l
group_within {base} {width} {counter} {most} {l} f = let h : width * get_or l counter 0 ≤ width * most = mul-le-mul_left width f.few in omega (arith, f.room)

-- room for fewer, where no more stand there
pub fits_fewer : {base width counter most : ℕ} {l : List ℕ} (n : ℕ) → Fits base width counter most l → get_or l counter 0 ≤ n → n ≤ most → Fits base width counter n l
fits_fewer {base} {width} {counter} {most} n f h k =
    let e : width * n ≤ width * most = mul-le-mul_left width k in
    record { some = f.some; apart = f.apart; room = omega (arith, f.room); few = h; short = f.short }

-- room for one record more, where the group is not full
pub room_for_one : {base width counter most : ℕ} {l : List ℕ} → Fits base width counter most l → get_or l counter 0 < most → Fits base width counter (get_or l counter 0 + 1) l
room_for_one {base} {width} {counter} {most} {l} f h = fits_fewer (get_or l counter 0 + 1) f (omega arith) (omega arith)
