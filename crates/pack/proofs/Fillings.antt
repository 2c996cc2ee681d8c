-- Zero bits up to the end of the last byte.
-- Assumes nothing.
use mathlib.Core.Path.{◌≡◌, refl}
use mathlib.Core.Bool.{false}
use mathlib.Core.List.{List}
use Prim.Native.Nat.{ℕ, zero, suc, ◌-◌, ◌*◌, ◌^◌, ◌<◌}
use native.Mathlib.Nat.{zero-div}
use lib.ListN.{length, get_or, replicate}
use Rattle.model.specs.Bits.{odd, bits_n}
use Rattle.bits.specs.Cursor.{Written}
use Rattle.put.specs.Put.{Put}
use Rattle.put.proofs.Joins.{put_none, put_one, put_as}

-- the bits of 0 are zeros
zero_bits : (n : ℕ) → bits_n n 0 ≡ replicate n false
unfolding bits_n odd
zero_bits zero = refl
zero_bits (suc n) = rw (zero-div (2 ^ n), zero_bits n)

-- no bit is left
pub none_left : (s : List ℕ) (at : ℕ) → ((i : ℕ) → get_or s i 0 < 2 ^ 8) → 8 * length s - at ≡ 0 → Put s s at (replicate (8 * length s - at) false) at
none_left s at h e = rw e (put_none s at h)

-- a 0 written over what is left is zeros
pub left_zero : {s t : List ℕ} {at next : ℕ} → Written s t at (8 * length s - at) 0 next → Put s t at (replicate (8 * length s - at) false) next
left_zero {s} {at = at} w = put_as (zero_bits (8 * length s - at)) (put_one w)
