-- A row of an index added to a row that stands by itself: the turns of the loop over their bytes, and what it does to the bits.
-- Assumes nothing.
use mathlib.Core.Path.{◌≡◌, refl, ◌∙◌}
use mathlib.Core.Bool.{false, ◌||◌}
use mathlib.Core.List.{List}
use Prim.Native.Nat.{ℕ, ◌+◌, ◌*◌, ◌-◌, ◌/◌, ◌%◌, ◌^◌, ◌≤◌, ◌<◌}
use native.Mathlib.Omega.{arith}
use native.Mathlib.Nat.{zero-div}
use native.Mathlib.Decide.{dec_lt}
use lib.ListN.{length, get_or, set, replicate, length-set, length-replicate, get_or-replicate, get_or-eq_default}
use lib.Seq.{get_or-set_same, get_or-set_other}
use Rattle.model.specs.Index.{bit_at}
use Rattle.index.specs.Rows.{both, RowJoined}
use Rattle.index.proofs.Bytes.{or_bits, both_bit}

-- nothing is added yet
pub joined_none : (idx : List ℕ) (x : ℕ) (row : List ℕ) → RowJoined idx x 0 row row
joined_none idx x row = record { size = refl; done = λ j l. absurd (omega arith); rest = λ j l. refl }

-- one byte more is added
pub joined_more : {idx : List ℕ} {x k : ℕ} {row row' : List ℕ} {v : ℕ} → length row ≡ 64 → RowJoined idx x k row row' → k < 64
    → v ≡ both (get_or row' k 0) (get_or idx (64 * x + k) 0) → RowJoined idx x (k + 1) row (set row' k v)
joined_more {idx} {x} {k} {row} {row'} {v} len o hk b = record {
  size = length-set row' k v ∙ o.size;
  done = λ i l. elim (dec_lt i k) [
    | yes h ↦ get_or-set_other row' k i v 0 (λ e. omega arith) ∙ o.done i h
    | no h ↦ let e : i ≡ k = omega arith in rw e (get_or-set_same row' k v 0 (omega (arith, o.size)) ∙ b ∙ rw (o.rest k (omega arith)) refl)
  ];
  rest = λ i l. get_or-set_other row' k i v 0 (λ e. omega arith) ∙ o.rest i (omega arith);
}

-- the whole row is added
pub joined_end : {idx : List ℕ} {x k : ℕ} {row row' : List ℕ} → RowJoined idx x k row row' → k ≤ 64 → 64 ≤ k → RowJoined idx x 64 row row'
joined_end {idx} {x} {k} {row} {row'} o h l = let e : k ≡ 64 = omega arith in rw e at o

-- a bit of the row that it leaves is one that the row had or one of row x
pub joined_bit : {idx : List ℕ} {x : ℕ} {row row' : List ℕ} → RowJoined idx x 64 row row' → (y : ℕ) → y < 512
    → bit_at row' 0 y ≡ (bit_at row 0 y || bit_at idx x y)
unfolding bit_at
joined_bit {idx} {x} {row} {row'} o y h =
    let z : 64 * 0 + y / 8 ≡ y / 8 = omega arith in
    rw (z, o.done (y / 8) (omega arith), both_bit (get_or row (y / 8) 0) (get_or idx (64 * x + y / 8) 0) (7 - y % 8))
    (or_bits (get_or row (y / 8) 0 / 2 ^ (7 - y % 8) % 2) (get_or idx (64 * x + y / 8) 0 / 2 ^ (7 - y % 8) % 2) (omega arith) (omega arith))

-- in zeros each byte is 0, the bytes past the last too
pub zeros : (n i : ℕ) → get_or {A = ℕ} (replicate n 0) i 0 ≡ 0
zeros n i = elim (dec_lt i n) [
  | yes h ↦ get_or-replicate {A = ℕ} n i 0 0 h
  | no h ↦ get_or-eq_default {A = ℕ} (replicate n 0) 0 (omega (arith, length-replicate {A = ℕ} n 0))
]

-- rows of zeros have no bit
pub no_bits : (n x y : ℕ) → bit_at (replicate n 0) x y ≡ false
unfolding bit_at
no_bits n x y = rw (zeros n (64 * x + y / 8), zero-div (2 ^ (7 - y % 8))) refl
