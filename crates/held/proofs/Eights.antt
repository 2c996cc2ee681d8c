-- Eight looked at together, to the last: whether the word of one of eight ids is that of a class, and whether eight bytes are all zero.
-- Assumes nothing.
use mathlib.Core.Path.{◌≡◌, refl, sym, ap, ◌∙◌}
use mathlib.Core.Bool.{Bool, true, false, ◌||◌}
use mathlib.Core.List.{List}
use Prim.Native.Nat.{ℕ, ◌+◌, ◌*◌, ◌/◌, ◌≤◌, ◌<◌}
use native.Mathlib.Omega.{arith}
use native.Mathlib.Decide.{dec_lt}
use mir.Syntax.{w8}
use mir.Val.{Fits}
use borrow.Author.Tests.{eqb-true, eq-eqb, le-leb, lt-leb}
use lib.Dec.{eqb}
use lib.ListN.{length, get_or}
use Rattle.model.specs.Lists.{all_of, tabulate}
use Rattle.model.specs.Policy.{class}
use Rattle.model.proofs.Truth.{same_truth, all_in, all_of_lem}
use Rattle.table.specs.Layout.{kind_word}
use Rattle.table.proofs.Tabled.{in_tabulate, tabulate_in}
use Rattle.table.proofs.Loops.{any_none, any_more}
use Rattle.held.specs.Passing.{zero_bytes, any_class}

-- Of the first k of eight ids: `some` says whether the word of one of them is that of a class.
pub record ClassTo (mem : List ℕ) (from : ℕ) (some : Bool) (k : ℕ) : Type 0 where
  pub inside : k ≤ 8
  pub is : some ≡ any_class mem from k

-- no word was looked at
pub class_none : (mem : List ℕ) (from : ℕ) → ClassTo mem from false 0
unfolding any_class
class_none mem from = record { inside = omega arith; is = sym (any_none (λ w. eqb w class) (λ k. kind_word mem (from + k))) }

module _ {mem : List ℕ} {from : ℕ} {some : Bool} {k : ℕ} (s : ClassTo mem from some k) where
  -- one word more
  pub class_more : k < 8 → ClassTo mem from (some || eqb (get_or mem (8 + from + k) 0) 5) (k + 1)
  unfolding any_class
  class_more l = record {
    inside = omega arith;
    is =
        let e : 8 + from + k ≡ 8 + (from + k) = omega arith in
        rw (e, s.is) (sym (any_more (λ w. eqb w class) (λ k. kind_word mem (from + k)) k));
  }

  -- all words
  pub class_all : 8 ≤ k → some ≡ any_class mem from 8
  class_all h = let e : k ≡ 8 = omega (arith, s.inside) in s.is ∙ ap (any_class mem from) e

-- The sum of the first k of eight bytes: it is 0 exactly if each of them is.
pub record ZeroTo (rows : List ℕ) (from sum k : ℕ) : Type 0 where
  pub inside : k ≤ 8
  pub small : sum ≤ 255 * k
  pub says : sum ≡ 0 → (j : ℕ) → j < k → get_or rows (from + j) 0 ≡ 0
  pub when : ((j : ℕ) → j < k → get_or rows (from + j) 0 ≡ 0) → sum ≡ 0

-- no byte is added yet
pub zeros_none : (rows : List ℕ) (from : ℕ) → ZeroTo rows from 0 0
zeros_none rows from = record { inside = omega arith; small = omega arith; says = λ e j l. absurd (omega arith); when = λ h. refl }

-- one byte more
pub zeros_more : {rows : List ℕ} {from sum k : ℕ} → ZeroTo rows from sum k → k < 8 → {b : ℕ} → b ≡ get_or rows (from + k) 0 → Fits w8 (get_or rows (from + k) 0) → ZeroTo rows from (sum + b) (k + 1)
zeros_more {k = k} z l {b} e m = record {
  inside = omega arith;
  small = omega (arith, z.small, m.fits);
  says = λ h j s. elim (dec_lt j k) [
    | yes y ↦ z.says (omega arith) j y
    | no y ↦ let q : j ≡ k = omega arith in rw q (omega arith)
  ];
  when = λ h. omega (arith, z.when (λ j s. h j (omega arith)), h k (omega arith));
}

module _ (rows : List ℕ) (x y : ℕ) where
  -- they are not all there
  pub zeros_past : length rows < 64 * x + 8 * (y / 64) + 8 → false ≡ zero_bytes rows x y
  unfolding zero_bytes
  zeros_past h = rw (lt-leb (64 * x + 8 * (y / 64) + 8) (length rows) h)

  -- all are added
  pub zeros_all : 64 * x + 8 * (y / 64) + 8 ≤ length rows → {sum k : ℕ} → ZeroTo rows (64 * x + 8 * (y / 64)) sum k → 8 ≤ k → eqb sum 0 ≡ zero_bytes rows x y
  unfolding zero_bytes
  zeros_all l {sum} {k} z h = rw (le-leb (64 * x + 8 * (y / 64) + 8) (length rows) l) (same_truth (eqb sum 0) (all_of (λ b. eqb b 0) (tabulate 8 byte)) all none)
    where
      byte : ℕ → ℕ
      byte j = get_or rows (64 * x + 8 * (y / 64) + j) 0

      all : eqb sum 0 ≡ true → all_of (λ b. eqb b 0) (tabulate 8 byte) ≡ true
      all e = all_of_lem (λ b. eqb b 0) (tabulate 8 byte) (λ b i.
          let w = tabulate_in 8 byte i in
          eq-eqb b 0 (sym w.is ∙ z.says (eqb-true sum 0 e) w.at (omega (arith, w.early))))

      none : all_of (λ b. eqb b 0) (tabulate 8 byte) ≡ true → eqb sum 0 ≡ true
      none e = eq-eqb sum 0 (z.when (λ j b. eqb-true (byte j) 0 (all_in (λ b. eqb b 0) e (in_tabulate 8 byte j (omega (arith, z.inside))))))
