-- The way from class to class in a row of bits: the ids that are passed by, one at a time, those of a byte or those of eight bytes together.
-- Assumes nothing.
use mathlib.Core.Path.{◌≡◌, refl, sym, ap, ◌∙◌}
use mathlib.Core.Bool.{Bool, true, false, and-false}
use mathlib.Core.List.{List}
use mathlib.Core.Logic.{inl, inr}
use Prim.Native.Nat.{ℕ, ◌+◌, ◌*◌, ◌-◌, ◌/◌, ◌%◌, ◌^◌, ◌≤◌, ◌<◌}
use native.Mathlib.Omega.{arith}
use native.Mathlib.Nat.{zero-div}
use native.Mathlib.Decide.{dec_lt}
use borrow.Author.Tests.{eqb-true, eq-eqb}
use lib.Dec.{eqb, leb}
use lib.ListN.{length, get_or, get_or-eq_default}
use Rattle.model.specs.Lists.{all_of, tabulate}
use Rattle.model.specs.Policy.{class, kind_of}
use Rattle.model.specs.Index.{bit_at}
use Rattle.model.proofs.Truth.{clash, fails_when, and_right, any_none, all_in}
use Rattle.table.specs.Layout.{kind_word}
use Rattle.table.specs.View.{policy_of}
use Rattle.table.proofs.Tabled.{in_tabulate}
use Rattle.table.proofs.ById.{kind_outside, kind_above, kind_is}
use Rattle.rule.specs.Sight.{seen}
use Rattle.rule.specs.Parts.{class_of}
use Rattle.std.specs.Prelude.{Option, Some, None, MatchOption}
use Rattle.held.specs.Passing.{zero_byte, zero_bytes, any_class, LeastClass, NextClass}

module _ (rows : List ℕ) (x y : ℕ) where
  -- behind the last byte every byte counts as zero
  pub zero_past : length rows ≤ 64 * x + y / 8 → true ≡ zero_byte rows x y
  unfolding zero_byte
  zero_past h = rw (get_or-eq_default rows 0 {n = 64 * x + y / 8} h)

  -- the byte that is read
  pub zero_read : eqb (get_or rows (64 * x + y / 8) 0) 0 ≡ zero_byte rows x y
  unfolding zero_byte
  zero_read = refl

  -- an id whose bit stands in a zero byte is no class of the element
  zero_class : (mem : List ℕ) → get_or rows (64 * x + y / 8) 0 ≡ 0 → class_of (seen rows true x) (policy_of mem) y ≡ false
  unfolding class_of seen bit_at
  zero_class mem e = rw (e, zero-div (2 ^ (7 - y % 8))) (and-false (eqb (kind_of (policy_of mem) y) class))

  -- eight bytes that are all zero: so is the byte of each of their ids
  zeros_byte : zero_bytes rows x y ≡ true → (z : ℕ) → z / 64 ≡ y / 64 → get_or rows (64 * x + z / 8) 0 ≡ 0
  unfolding zero_bytes
  zeros_byte e z q =
      let a = and_right (leb (64 * x + 8 * (y / 64) + 8) (length rows)) (all_of (λ b. eqb b 0) (tabulate 8 (λ k. get_or rows (64 * x + 8 * (y / 64) + k) 0))) e in
      let t = all_in (λ b. eqb b 0) a (in_tabulate 8 (λ k. get_or rows (64 * x + 8 * (y / 64) + k) 0) (z / 8 - 8 * (y / 64)) (omega arith)) in
      let s : 64 * x + z / 8 ≡ 64 * x + 8 * (y / 64) + (z / 8 - 8 * (y / 64)) = omega arith in
      ap (λ (i : ℕ). get_or rows i 0) s ∙ eqb-true (get_or rows (64 * x + 8 * (y / 64) + (z / 8 - 8 * (y / 64))) 0) 0 t

-- an id whose word is not that of a class is none
word_other : (mem : List ℕ) (y : ℕ) → (kind_word mem y ≡ class → ⊥) → kind_of (policy_of mem) y ≡ class → ⊥
word_other mem y h k = elim (dec_lt 0 y) [
  | yes a ↦ elim (dec_lt 511 y) [
    | yes b ↦ omega (arith, kind_outside mem y (inr b))
    | no b ↦ elim (dec_lt 5 (kind_word mem y)) [
      | yes s ↦ omega (arith, kind_above mem y s)
      | no s ↦ h (kind_is mem y a (omega arith) (omega arith) ∙ k)
    ]
  ]
  | no a ↦ let l : y < 1 = omega arith in omega (arith, kind_outside mem y (inl l))
]

-- so none of some ids is a class of any element, where the word of none is that of a class
others_class : (E : ℕ → Bool) (mem : List ℕ) (from n y : ℕ) → any_class mem from n ≡ false → from ≤ y → y < from + n → class_of E (policy_of mem) y ≡ false
unfolding any_class class_of
others_class E mem from n y e a b =
    let t = any_none (λ w. eqb w class) e (in_tabulate n (λ k. kind_word mem (from + k)) (y - from) (omega arith)) in
    let s : y ≡ from + (y - from) = omega arith in
    let o : eqb (kind_word mem y) class ≡ false = ap (λ (i : ℕ). eqb (kind_word mem i) class) s ∙ t in
    rw (fails_when (eqb (kind_of (policy_of mem) y) class) (λ k. word_other mem y (λ w. clash (eq-eqb (kind_word mem y) class w) o) (eqb-true (kind_of (policy_of mem) y) class k)))

-- How far a loop has come: to d, with no class of the element from c on below d.
pub record NoClass (mem rows : List ℕ) (x c end d : ℕ) : Type 0 where
  pub from : c ≤ d
  pub most : d ≤ end
  pub none : (y : ℕ) → c ≤ y → y < d → class_of (seen rows true x) (policy_of mem) y ≡ false

module _ (mem rows : List ℕ) (x : ℕ) where
  -- no id is passed by yet
  passes_none : {c end : ℕ} → c ≤ end → NoClass mem rows x c end c
  passes_none l = record { from = omega arith; most = l; none = λ y a b. absurd (omega arith) }

  -- the loop over eight bytes starts
  pub bytes_start : {c end : ℕ} → end ≡ c / 64 * 64 + 64 → NoClass mem rows x c end c
  bytes_start e = passes_none (omega arith)

  -- that over a row starts
  pub row_start : {c : ℕ} → c ≤ 512 → NoClass mem rows x c 512 c
  row_start l = passes_none l

  -- a zero byte has no class
  pub byte_zero : {d end : ℕ} → end ≡ d / 8 * 8 + 8 → {b : Bool} → b ≡ zero_byte rows x d → b ≡ true → NextClass mem rows x d end None
  unfolding zero_byte
  byte_zero {d} {end} q e h = λ y a s.
      let k : y / 8 ≡ d / 8 = omega arith in
      zero_class rows x y mem (rw k (eqb-true (get_or rows (64 * x + d / 8) 0) 0 (sym e ∙ h)))

  -- a byte has none whose ids are of no class
  pub byte_other : {d end : ℕ} → end ≡ d / 8 * 8 + 8 → {b : Bool} → b ≡ any_class mem (end - 8) 8 → b ≡ false → NextClass mem rows x d end None
  byte_other {d} {end} q {b} e h = λ y a s.
      others_class (seen rows true x) mem (end - 8) 8 y (sym e ∙ h) (omega arith) (omega arith)

  -- eight zero bytes have none
  pub bytes_zero : {d end : ℕ} → end ≡ d / 64 * 64 + 64 → {b : Bool} → b ≡ zero_bytes rows x d → b ≡ true → NextClass mem rows x d end None
  bytes_zero {d} {end} q e h = λ y a s.
      let k : y / 64 ≡ d / 64 = omega arith in
      zero_class rows x y mem (zeros_byte rows x d (sym e ∙ h) y k)

  -- the first of the ids from d on that is a class of the element, if one is
  pub ids_found : (d end : ℕ) (found : Option ℕ)
      → MatchOption found ((y : ℕ) → d ≤ y → y < end → class_of (seen rows true x) (policy_of mem) y ≡ false)
      (λ r. (d ≤ r) × (r < end) × (class_of (seen rows true x) (policy_of mem) r ≡ true) × ((y : ℕ) → d ≤ y → y < r → class_of (seen rows true x) (policy_of mem) y ≡ false))
      → NextClass mem rows x d end found
  ids_found d end None h = h
  ids_found d end (Some r) h = record { from = h.0; early = h.1; none = h.3; its_class = h.2 }

-- A loop over parts, of which one reaches from d to `stop`: what that part says.
module _ {mem rows : List ℕ} {x c end d stop : ℕ} (f : NoClass mem rows x c end d) (l : stop ≤ end) where
  -- no class from c on below one before which that part has none
  both_none : (r : ℕ) → ((y : ℕ) → d ≤ y → y < r → class_of (seen rows true x) (policy_of mem) y ≡ false)
      → (y : ℕ) → c ≤ y → y < r → class_of (seen rows true x) (policy_of mem) y ≡ false
  both_none r g y a s = elim (dec_lt y d) [
    | yes k ↦ f.none y a k
    | no k ↦ g y (omega arith) s
  ]

  -- it has none
  part_more : d ≤ stop → NextClass mem rows x d stop None → NoClass mem rows x c end stop
  part_more m g = record { from = omega (arith, f.from); most = l; none = both_none stop g }

  -- it has one
  part_found : {r : ℕ} → LeastClass mem rows x d stop r → LeastClass mem rows x c end r
  part_found {r} g = record { from = omega (arith, f.from, g.from); early = omega (arith, g.early); none = both_none r g.none; its_class = g.its_class }

module _ {mem rows : List ℕ} {x c end d : ℕ} (f : NoClass mem rows x c end d) where
  -- there is none
  pub parts_end : end ≤ d → NextClass mem rows x c end None
  parts_end h = λ y a s. f.none y a (omega arith)

  -- The loop over eight bytes: what the byte of d says.
  module _ (q : end ≡ c / 64 * 64 + 64) (l : d < end) where
    -- it has no class
    pub byte_more : NextClass mem rows x d (d / 8 * 8 + 8) None → NoClass mem rows x c end (d / 8 * 8 + 8)
    byte_more g = part_more f (omega (arith, f.from)) (omega arith) g

    -- it has one
    pub byte_found : {r : ℕ} → LeastClass mem rows x d (d / 8 * 8 + 8) r → LeastClass mem rows x c end r
    byte_found g = part_found f (omega (arith, f.from)) g

-- The loop over a row: what the eight bytes of d say.
module _ {mem rows : List ℕ} {x c d : ℕ} (f : NoClass mem rows x c 512 d) (l : d < 512) where
  -- they have no class
  pub bytes_more : NextClass mem rows x d (d / 64 * 64 + 64) None → NoClass mem rows x c 512 (d / 64 * 64 + 64)
  bytes_more g = part_more f (omega arith) (omega arith) g

  -- they have one
  pub bytes_found : {r : ℕ} → LeastClass mem rows x d (d / 64 * 64 + 64) r → LeastClass mem rows x c 512 r
  bytes_found g = part_found f (omega arith) g
