-- The index: its length, and that each of its bits says what 01 says.
-- Assumes nothing.
use mathlib.Core.Path.{◌≡◌, refl, sym, ap, ◌∙◌}
use mathlib.Core.Bool.{Bool, true, false, and-false}
use Prim.Native.Nat.{ℕ, zero, suc, ◌+◌, ◌*◌, ◌-◌, ◌/◌, ◌%◌, ◌^◌, ◌<◌}
use native.Mathlib.Omega.{arith}
use borrow.Author.Tests.{eqb-false, not-true}
use lib.ListN.{length, get_or}
use Rattle.model.specs.Lists.{tabulate}
use Rattle.model.specs.Policy.{Policy, is_element_id, is_kind, kind_of, is_there}
use Rattle.model.specs.Sound.{Sound, element_fits}
use Rattle.model.specs.Bits.{odd, bits_n, num_of}
use Rattle.model.specs.Index.{index_bit, index_byte, index_of, bit_at}
use Rattle.model.proofs.Truth.{fails_when, and_left, all_in}
use Rattle.model.proofs.Chains.{known}
use Rattle.model.proofs.Image.Bits.{bits_n_num}
use Rattle.model.proofs.Image.Ranges.{id_range}
use Rattle.model.proofs.Image.Counts.{each_right}

module _ {A : Type 0} where
  pub length_tabulate : (n : ℕ) (f : ℕ → A) → length (tabulate n f) ≡ n
  unfolding tabulate
  length_tabulate zero f = refl
  length_tabulate (suc n) f = ap suc (length_tabulate n (λ i. f (suc i)))

  pub get_d_tabulate : (n : ℕ) (f : ℕ → A) (i : ℕ) (d : A) → i < n → get_or (tabulate n f) i d ≡ f i
  unfolding tabulate
  get_d_tabulate zero f i d h = absurd (omega arith)
  get_d_tabulate (suc n) f zero d h = refl
  get_d_tabulate (suc n) f (suc i) d h = get_d_tabulate n (λ i. f (suc i)) i d (omega arith)

-- the j-th of the n low bits, counted from the most significant
pub get_d_bits_n : (n v j : ℕ) → j < n → get_or (bits_n n v) j false ≡ odd (v / 2 ^ (n - 1 - j))
unfolding bits_n
get_d_bits_n zero v j h = absurd (omega arith)
get_d_bits_n (suc n) v zero h = let e : suc n - 1 - 0 ≡ n = omega arith in rw e
get_d_bits_n (suc n) v (suc j) h = let e : suc n - 1 - suc j ≡ n - 1 - j = omega arith in rw e (get_d_bits_n n v j (omega arith))

-- the bits of eight that were put into a byte
pub bit_of_byte : (f : ℕ → Bool) (j : ℕ) → j < 8 → odd (num_of (tabulate 8 f) / 2 ^ (7 - j)) ≡ f j
bit_of_byte f j h =
    let e : bits_n 8 (num_of (tabulate 8 f)) ≡ tabulate 8 f = rw (length_tabulate 8 f) at (bits_n_num (tabulate 8 f)) in
    sym (get_d_bits_n 8 (num_of (tabulate 8 f)) j h) ∙ (rw e (get_d_tabulate 8 f j false h))

-- "32,768 bytes."
pub index_length : (p : Policy) → length (index_of p) ≡ 32768
unfolding index_of
index_length p = length_tabulate 32768 (index_byte p)

-- "Byte 64x + y/8, bit 7 - (y mod 8), is 1 exactly when x and y exist and x is within y."
pub index_bit_lem : (p : Policy) (x y : ℕ) → x < 512 → y < 512 → bit_at (index_of p) x y ≡ index_bit p x y
unfolding bit_at index_of index_byte odd
index_bit_lem p x y hx hy =
    let at : 64 * x + y / 8 < 32768 = omega arith in
    let row : (64 * x + y / 8) / 64 ≡ x = omega arith in
    let byte : (64 * x + y / 8) % 64 ≡ y / 8 = omega arith in
    let col : y / 8 * 8 + y % 8 ≡ y = omega arith in
    rw (get_d_tabulate 32768 (index_byte p) (64 * x + y / 8) 0 at)
    (rw (row, byte) (bit_of_byte (λ j. index_bit p x (y / 8 * 8 + j)) (y % 8) (omega arith) ∙ ap (index_bit p x) col))

-- what is there in a sound policy has an id from 1 to 511
pub there_range : (p : Policy) → Sound p → (x : ℕ) → is_there p x ≡ true → (0 < x) × (x < 512)
unfolding is_there kind_of element_fits
there_range p s x h =
    let k = known p.elements x (eqb-false (kind_of p x) 0 (not-true _ h)) in
    let f = all_in element_fits (each_right p s.fields).elements k.there in
    let r = id_range k.it.id (and_left (is_element_id k.it.id) (is_kind k.it.kind) f) in
    (omega (arith, r.0, k.is), omega (arith, r.1, k.is))

-- 0 is no element of a sound policy
pub zero_absent : (p : Policy) → Sound p → is_there p 0 ≡ false
zero_absent p s = fails_when (is_there p 0) (λ h. omega (arith, (there_range p s 0 h).0))

-- "Row and column 0 are zero.", where 0 is no element
pub index_zero_row : (p : Policy) → is_there p 0 ≡ false → (y : ℕ) → index_bit p 0 y ≡ false
unfolding index_bit
index_zero_row p e y = rw e

pub index_zero_column : (p : Policy) → is_there p 0 ≡ false → (x : ℕ) → index_bit p x 0 ≡ false
unfolding index_bit
index_zero_column p e x = rw (e, and-false (is_there p x))
