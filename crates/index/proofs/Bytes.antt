-- Bits of bytes, and sums of bytes.
-- Assumes nothing.
use mathlib.Core.Path.{◌≡◌, refl, sym, ap, ◌∙◌}
use mathlib.Core.Bool.{true, false, ◌||◌}
use mathlib.Core.List.{List, [], ◌∷◌}
use mathlib.Core.Logic.{◌⊎◌, inl, inr}
use Prim.Native.Nat.{ℕ, zero, suc, ◌+◌, ◌*◌, ◌-◌, ◌/◌, ◌%◌, ◌^◌, ◌≤◌, ◌<◌, zero-le}
use native.Mathlib.Omega.{arith}
use native.Mathlib.Nat.{le_of_suc-le-suc, not-suc-le-zero, zero-div}
use borrow.Author.Tests.{eqb-true, eq-eqb}
use lib.Dec.{eqb}
use lib.Bits.{bit_or, or_shr, or_mod, or_lt, or_add_and, and_le_r}
use lib.ListN.{length, get_or, set, get_or-eq_default}
use Rattle.model.specs.Index.{bit_at}
use Rattle.index.specs.Rows.{On, sum, both}

-- 0 has no bit
pub no_bit : (j : ℕ) → 0 / 2 ^ j % 2 ≡ 1 → ⊥
no_bit j e = omega (arith, zero-div (2 ^ j))

-- one bit or the other
or_cases : (a b : ℕ) → a < 2 → b < 2 → bit_or a b ≡ 1 → (a ≡ 1) ⊎ (b ≡ 1)
or_cases zero b la lb e = inr e
or_cases (suc zero) b la lb e = inl refl
or_cases (suc (suc n)) b la lb e = absurd (omega arith)

-- the first bit is in what is joined
or_left : (b : ℕ) → b < 2 → bit_or 1 b ≡ 1
or_left zero l = refl
or_left (suc zero) l = refl
or_left (suc (suc n)) l = absurd (omega arith)

-- and so is the second
or_right : (a : ℕ) → a < 2 → bit_or a 1 ≡ 1
or_right zero l = refl
or_right (suc zero) l = refl
or_right (suc (suc n)) l = absurd (omega arith)

-- read as Booleans, what is joined of two bits is the one or the other
pub or_bits : (a b : ℕ) → a < 2 → b < 2 → eqb (bit_or a b) 1 ≡ (eqb a 1 || eqb b 1)
or_bits zero b la lb = refl
or_bits (suc zero) zero la lb = refl
or_bits (suc zero) (suc zero) la lb = refl
or_bits (suc zero) (suc (suc n)) la lb = absurd (omega arith)
or_bits (suc (suc n)) b la lb = absurd (omega arith)

-- bytes are joined bit by bit
pub both_bit : (x y j : ℕ) → both x y / 2 ^ j % 2 ≡ bit_or (x / 2 ^ j % 2) (y / 2 ^ j % 2)
unfolding both
both_bit x y j = ap (λ (n : ℕ). n % 2) (or_shr x y j) ∙ or_mod (x / 2 ^ j) (y / 2 ^ j) 1

module _ (x y j : ℕ) where
  -- a bit of the joined byte is a bit of one of the two
  pub bit_of : both x y / 2 ^ j % 2 ≡ 1 → (x / 2 ^ j % 2 ≡ 1) ⊎ (y / 2 ^ j % 2 ≡ 1)
  bit_of e = or_cases (x / 2 ^ j % 2) (y / 2 ^ j % 2) (omega arith) (omega arith) (sym (both_bit x y j) ∙ e)

  -- a bit of the first byte is in the joined one
  pub bit_left : x / 2 ^ j % 2 ≡ 1 → both x y / 2 ^ j % 2 ≡ 1
  bit_left e = both_bit x y j ∙ rw e (or_left (y / 2 ^ j % 2) (omega arith))

  -- and so is a bit of the second
  pub bit_right : y / 2 ^ j % 2 ≡ 1 → both x y / 2 ^ j % 2 ≡ 1
  bit_right e = both_bit x y j ∙ rw e (or_right (x / 2 ^ j % 2) (omega arith))

-- the joined byte is no less than the first
pub both_more : (x y : ℕ) → x ≤ both x y
unfolding both
both_more x y = omega (arith, or_add_and x y, and_le_r x y)

-- the joined byte is a byte
pub both_byte : (x y : ℕ) → x < 256 → y < 256 → both x y < 256
unfolding both
both_byte x y = or_lt 8 x y

-- r is the byte with the bits of x and of y; it is no less than x
pub record Joined (x y r : ℕ) : Type 0 where
  pub is : r ≡ both x y
  pub more : x ≤ r
  pub byte : r < 256

-- what the code joins is that byte
pub joined : (x y : ℕ) → x < 256 → y < 256 → Joined x y (bit_or x y)
unfolding both
joined x y h l = record { is = refl; more = both_more x y; byte = both_byte x y h l }

-- the bit that the code reads
pub bit_read : (idx : List ℕ) (x y : ℕ) → eqb (get_or idx (64 * x + y / 8) 0 / 2 ^ (7 - y % 8) % 2) 1 ≡ bit_at idx x y
unfolding bit_at
bit_read idx x y = refl

-- past the last byte every bit is 0
pub bit_past : (idx : List ℕ) (x y : ℕ) → length idx ≤ 64 * x + y / 8 → false ≡ bit_at idx x y
unfolding bit_at
bit_past idx x y h = rw (get_or-eq_default idx 0 h, zero-div (2 ^ (7 - y % 8))) refl

-- a bit that is 1 is read as true
pub on_true : {idx : List ℕ} {x y : ℕ} → On idx x y → bit_at idx x y ≡ true
unfolding bit_at
on_true p = eq-eqb _ 1 p.is

-- and the other way
pub true_on : (idx : List ℕ) (x y : ℕ) → y < 512 → bit_at idx x y ≡ true → On idx x y
unfolding bit_at
true_on idx x y h e = record { small = h; is = eqb-true _ 1 e }

-- the sum after a store
pub sum_set : (l : List ℕ) (i v : ℕ) → i < length l → sum (set l i v) + get_or l i 0 ≡ sum l + v
sum_set [] i v h = absurd (not-suc-le-zero h)
sum_set (x ∷ l) zero v h = omega arith
sum_set (x ∷ l) (suc i) v h = omega (arith, sum_set l i v (le_of_suc-le-suc h))

-- the sum of bytes is at most 255 for each
pub sum_le : (l : List ℕ) → ((i : ℕ) → get_or l i 0 < 256) → sum l ≤ 255 * length l
sum_le [] h = zero-le
sum_le (x ∷ l) h = omega (arith, h 0, sum_le l (λ i. h (suc i)))

-- where no byte falls the sum does not
sum_more : (l m : List ℕ) → length m ≡ length l → ((i : ℕ) → get_or l i 0 ≤ get_or m i 0) → sum l ≤ sum m
sum_more [] m e h = zero-le
sum_more (x ∷ l) [] e h = absurd (omega arith)
sum_more (x ∷ l) (y ∷ m) e h = omega (arith, h 0, sum_more l m (omega arith) (λ i. h (suc i)))

-- where no byte falls and the sum does not grow, nothing changes
pub sum_same : (l m : List ℕ) → length m ≡ length l → ((i : ℕ) → get_or l i 0 ≤ get_or m i 0) → sum m ≡ sum l → m ≡ l
sum_same [] [] e h s = refl
sum_same [] (y ∷ m) e h s = absurd (omega arith)
sum_same (x ∷ l) [] e h s = absurd (omega arith)
sum_same (x ∷ l) (y ∷ m) e h s =
    let k : length m ≡ length l = omega arith in
    let g : sum l ≤ sum m = sum_more l m k (λ i. h (suc i)) in
    let a : x ≤ y = h 0 in
    let p : y ≡ x = omega arith in
    let q : sum m ≡ sum l = omega arith in
    rw (p, sum_same l m k (λ i. h (suc i)) q)
