-- How many bits the fields of an image can take, whatever its counts say.
-- Assumes nothing.
use mathlib.Core.Path.{◌≡◌}
use mathlib.Core.Bool.{Bool, true}
use mathlib.Core.List.{List}
use Prim.Native.Nat.{ℕ, zero, suc, ◌+◌, ◌*◌, ◌≤◌, ◌<◌}
use native.Mathlib.Omega.{arith}
use lib.ListN.{length}
use Rattle.model.specs.Bits.{bits_of}
use Rattle.model.proofs.Image.Bits.{spelled_lt}
use Rattle.measure.specs.Places.{prohibitions_at, prohibitions_in, listed_at, behind, end_at}
use Rattle.measure.specs.Sizes.{misfits}
use Rattle.measure.proofs.Judged.{longer_misfits}

-- a prohibition takes at most 176 bits
pub behind_most : (l : List Bool) (at n : ℕ) → behind l at n ≤ at + 176 * n
unfolding behind
behind_most l at zero = omega arith
behind_most l at (suc n) =
    let i = spelled_lt l (at + 44) 3 in
    let x = spelled_lt l (at + 47) 3 in
    let h = behind_most l (at + 50 + 9 * listed_at l at) n in
    omega arith

-- the fields take at most 143,393 bits
pub end_most : (l : List Bool) → end_at l ≤ 143393
end_most l =
    let h = behind_most l (prohibitions_at l) (prohibitions_in l) in
    let n1 = spelled_lt l 4 9 in
    let n2 = spelled_lt l 13 11 in
    let n3 = spelled_lt l 24 10 in
    let n4 = spelled_lt l 34 8 in
    let n5 = spelled_lt l 42 8 in
    omega arith

-- an image of more than 17,925 bytes is longer than its fields
pub long_misfits : (s : List ℕ) → 17925 < length s → true ≡ misfits s
long_misfits s h = let m = end_most (bits_of s) in longer_misfits s (omega arith)
