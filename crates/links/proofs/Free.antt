-- Elements in a row that are not there or classes, by their words.
-- Assumes nothing.
use mathlib.Core.Path.{◌≡◌, refl, ap, ◌∙◌}
use mathlib.Core.Bool.{Bool, true, false, not, ◌&&◌, ◌||◌, or-true}
use mathlib.Core.List.{List}
use Prim.Native.Nat.{ℕ, suc, ◌+◌, ◌-◌, ◌≤◌, ◌<◌}
use native.Mathlib.Omega.{arith}
use native.Mathlib.Decide.{dec_lt}
use borrow.Author.Tests.{le-leb, lt-leb, ne_eqb}
use lib.Dec.{eqb, leb}
use Rattle.model.specs.Policy.{Policy, is_there}
use Rattle.table.specs.Layout.{word, kind_word}
use Rattle.table.specs.View.{each_below, policy_of}
use Rattle.table.proofs.ById.{kind_is, kind_above}
use Rattle.table.proofs.Checks.{each_so, so_each}
use Rattle.links.specs.Returning.{is_free, are_free}

-- a kind of at most 5: it is 0 or at least 5 exactly if it is none or a class
free_kind : (w : ℕ) → w ≤ 5 → (eqb w 0 || leb 5 w) ≡ (not (not (eqb w 0)) || eqb w 5)
free_kind w h = elim (dec_lt w 5) [
  | yes b ↦ rw (lt-leb 5 w b, ne_eqb w 5 (λ e. omega arith)) (twice (eqb w 0))
  | no b ↦ let e : w ≡ 5 = omega arith in rw e refl
]
  where
    twice : (b : Bool) → (b || false) ≡ (not (not b) || false)
    twice true = refl
    twice false = refl

-- an element is free exactly if its word is 0 or at least 5
free_word : (mem : List ℕ) (x : ℕ) → 1 ≤ x → x ≤ 511 → (eqb (kind_word mem x) 0 || leb 5 (kind_word mem x)) ≡ is_free (policy_of mem) x
unfolding is_free is_there
free_word mem x l h = elim (dec_lt 5 (kind_word mem x)) [
  | yes b ↦ rw (← kind_above mem x b, le-leb 5 (kind_word mem x) (omega arith)) (or-true (eqb (kind_word mem x) 0))
  | no b ↦ let s : kind_word mem x ≤ 5 = omega arith in rw (← kind_is mem x l h s) (free_kind (kind_word mem x) s)
]

-- those in a row, and one more
free_next : (p : Policy) (from x : ℕ) → from ≤ x → are_free p from (x + 1) ≡ (are_free p from x && is_free p x)
unfolding are_free each_below
free_next p from x h =
    let a : x + 1 - from ≡ suc (x - from) = omega arith in
    let b : from + (x - from) ≡ x = omega arith in
    rw a (ap (λ k. each_below (x - from) (λ j. is_free p (from + j)) && is_free p k) b)

-- each of a row is free
pub free_each : (p : Policy) (from to : ℕ) → are_free p from to ≡ true → (x : ℕ) → from ≤ x → x < to → is_free p x ≡ true
unfolding are_free
free_each p from to e x a b =
    let s : x ≡ from + (x - from) = omega arith in
    ap (is_free p) s ∙ each_so (λ k. is_free p (from + k)) (to - from) e (x - from) (omega arith)

-- and the other way
pub each_free : (p : Policy) (from to : ℕ) → ((x : ℕ) → from ≤ x → x < to → is_free p x ≡ true) → are_free p from to ≡ true
unfolding are_free
each_free p from to h = so_each (λ k. is_free p (from + k)) (to - from) (λ k l. h (from + k) (omega arith) (omega arith))

-- b says whether those from one on and before x are free; x is not behind `to`, unless it is the first
pub record FreeTo (mem : List ℕ) (from to : ℕ) (b : Bool) (x : ℕ) : Type 0 where
  pub since : from ≤ x
  pub inside : x - from ≤ to - from
  pub is : b ≡ are_free (policy_of mem) from x

-- there is none before the first
pub free_none : (mem : List ℕ) (from to : ℕ) → FreeTo mem from to true from
unfolding are_free each_below
free_none mem from to =
    let s : from - from ≡ 0 = omega arith in
    record { since = omega arith; inside = omega arith; is = rw s refl }

module _ {mem : List ℕ} {from to : ℕ} {b : Bool} {x : ℕ} (f : FreeTo mem from to b x) where
  -- one more, by its word
  pub free_more : 1 ≤ from → to ≤ 512 → x < to → FreeTo mem from to (b && (eqb (word mem (8 + x)) 0 || leb 5 (word mem (8 + x)))) (x + 1)
  free_more l h m = record {
    since = omega (arith, f.since);
    inside = omega arith;
    is = rw (free_next (policy_of mem) from x f.since, ← f.is, ← free_word mem x (omega (arith, f.since)) (omega arith)) refl;
  }

  -- all
  pub free_all : to ≤ x → b ≡ are_free (policy_of mem) from to
  unfolding are_free
  free_all h =
      let e : x - from ≡ to - from = omega (arith, f.inside) in
      f.is ∙ ap (λ n. each_below n (λ k. is_free (policy_of mem) (from + k))) e
