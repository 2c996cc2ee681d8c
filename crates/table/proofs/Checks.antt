-- Tests of each number below another, and the passes over the prohibitions and over the assignments that make them.
-- Assumes nothing.
use mathlib.Core.Path.{◌≡◌, refl, sym, ap, ◌∙◌}
use mathlib.Core.Bool.{Bool, true, false, not, ◌&&◌}
use mathlib.Core.List.{List}
use Prim.Native.Nat.{ℕ, zero, suc, ◌+◌, ◌*◌, ◌-◌, ◌/◌, ◌%◌, ◌≤◌, ◌<◌}
use native.Mathlib.Nat.{not-suc-le-zero}
use native.Mathlib.Omega.{arith}
use native.Mathlib.Decide.{dec_lt}
use borrow.Author.Tests.{not-true, not-false, lt-ltb, ltb-true}
use lib.Dec.{leb, ltb}
use Rattle.model.proofs.Truth.{and_left, and_right, and_join, same_truth}
use Rattle.table.specs.Layout.{word, assignment_word, prohibition_start}
use Rattle.table.specs.View.{each_below, are_rising, are_small, has_short_lists, have_short_lists}

module _ (t : ℕ → Bool) where
  -- the test holds of each
  pub each_so : (n : ℕ) → each_below n t ≡ true → (i : ℕ) → i < n → t i ≡ true
  unfolding each_below
  each_so zero e i h = absurd (not-suc-le-zero h)
  each_so (suc n) e i h = elim (dec_lt i n) [
    | yes b ↦ each_so n (and_left (each_below n t) (t n) e) i b
    | no b ↦ let s : i ≡ n = omega arith in rw s (and_right (each_below n t) (t n) e)
  ]

  -- and the other way
  pub so_each : (n : ℕ) → ((i : ℕ) → i < n → t i ≡ true) → each_below n t ≡ true
  unfolding each_below
  so_each zero h = refl
  so_each (suc n) h = and_join (each_below n t) (t n) (so_each n (λ i l. h i (omega arith))) (h n (omega arith))

-- Whether the lists of one prohibition are short, from its word of counts.
pub lists_short_lem : (mem : List ℕ) (start : ℕ) → (leb (word mem (start + 2) / 8) 4 && leb (word mem (start + 2) % 8) 4) ≡ has_short_lists mem start
unfolding has_short_lists
lists_short_lem mem start = refl

-- each_below, one further
each_next : (t : ℕ → Bool) (n : ℕ) → each_below (suc n) t ≡ (each_below n t && t n)
unfolding each_below
each_next t n = refl

-- The pass over the prohibitions: the lists of the first i are short exactly if `short` says so.
pub record ShortTo (mem : List ℕ) (n : ℕ) (short : Bool) (i : ℕ) : Type 0 where
  pub inside : i ≤ n
  pub is : short ≡ have_short_lists mem i

-- those of none are
pub short_none : (mem : List ℕ) (n : ℕ) → ShortTo mem n true 0
unfolding have_short_lists each_below
short_none mem n = record { inside = omega arith; is = refl }

-- those of one more: short so far, and short at it
short_next : (mem : List ℕ) (short : Bool) (i : ℕ) → short ≡ have_short_lists mem i
    → (short && has_short_lists mem (5776 + 11 * i)) ≡ have_short_lists mem (i + 1)
unfolding have_short_lists
short_next mem short i e =
    let s : i + 1 ≡ suc i = omega arith in
    rw (s, each_next (λ k. has_short_lists mem (prohibition_start k)) i, e) refl

module _ {mem : List ℕ} {n : ℕ} {short : Bool} {i : ℕ} (z : ShortTo mem n short i) where
  -- one prohibition further
  pub short_more : i < n → {b : Bool} → b ≡ has_short_lists mem (5776 + 11 * i) → ShortTo mem n (short && b) (i + 1)
  short_more l {b} q = record { inside = omega arith; is = rw q (short_next mem short i z.is) }

  -- past the last it says it of all
  pub short_all : n ≤ i → short ≡ have_short_lists mem n
  short_all h = let e : i ≡ n = omega (arith, z.inside) in z.is ∙ ap (have_short_lists mem) e

-- The pass over the assignments: up to i, each is above the one before it exactly if `up` says so.
pub record RiseTo (mem : List ℕ) (n : ℕ) (up : Bool) (i : ℕ) : Type 0 where
  pub some : 1 ≤ i
  pub inside : i ≤ n
  pub is : up ≡ are_rising mem i

pub rise_none : (mem : List ℕ) (n : ℕ) → 1 ≤ n → RiseTo mem n true 1
unfolding are_rising each_below
rise_none mem n h = record { some = omega arith; inside = h; is = refl }

rise_next : (mem : List ℕ) (up : Bool) (i : ℕ) → 1 ≤ i → up ≡ are_rising mem i → (up && ltb (word mem (776 + i - 1)) (word mem (776 + i))) ≡ are_rising mem (i + 1)
unfolding are_rising
rise_next mem up i h u = go (i - 1) (omega arith)
  where
    go : (j : ℕ) → i ≡ suc j → (up && ltb (word mem (776 + i - 1)) (word mem (776 + i))) ≡ each_below (i + 1 - 1) (λ k. ltb (assignment_word mem k) (assignment_word mem (suc k)))
    go j e =
        let a : i + 1 - 1 ≡ suc j = omega arith in
        let b : i - 1 ≡ j = omega arith in
        let c : 776 + i - 1 ≡ 776 + j = omega arith in
        let d : 776 + i ≡ 776 + suc j = omega arith in
        let v : up ≡ each_below j (λ k. ltb (assignment_word mem k) (assignment_word mem (suc k))) = rw b at u in
        rw (a, c, d, each_next (λ k. ltb (assignment_word mem k) (assignment_word mem (suc k))) j, v) refl

module _ {mem : List ℕ} {n : ℕ} {up : Bool} {i : ℕ} (r : RiseTo mem n up i) where
  pub rise_more : i < n → RiseTo mem n (up && ltb (word mem (776 + i - 1)) (word mem (776 + i))) (i + 1)
  rise_more l = record { some = omega arith; inside = omega arith; is = rise_next mem up i r.some r.is }

  pub rise_all : n ≤ i → up ≡ are_rising mem n
  rise_all h = let e : i ≡ n = omega (arith, r.inside) in r.is ∙ ap (are_rising mem) e

-- Whether the assignments are in order: none, one that does not rise, the last too great, all well.
module _ (mem : List ℕ) (n : ℕ) where
  pub order_none : n ≡ 0 → true ≡ (are_rising mem n && are_small mem n)
  unfolding are_rising are_small each_below
  order_none e = rw e refl

  pub order_falls : {b : Bool} → b ≡ are_rising mem n → not b ≡ true → false ≡ (are_rising mem n && are_small mem n)
  order_falls {b} e h = let f : are_rising mem n ≡ false = sym e ∙ not-true b h in rw f refl

  -- where they rise, no word is above the last
  rising_last : are_rising mem n ≡ true → (i : ℕ) → i < n → word mem (776 + i) ≤ word mem (776 + n - 1)
  unfolding are_rising
  rising_last e i h = go (n - 1 - i) i (omega arith)
    where
      go : (d i : ℕ) → i + d + 1 ≡ n → word mem (776 + i) ≤ word mem (776 + n - 1)
      go zero i q = let s : 776 + i ≡ 776 + n - 1 = omega arith in rw s (omega arith)
      go (suc d) i q =
          let r = go d (suc i) (omega arith) in
          let l = ltb-true (assignment_word mem i) (assignment_word mem (suc i)) (each_so (λ k. ltb (assignment_word mem k) (assignment_word mem (suc k))) (n - 1) e i (omega arith)) in
          omega (arith, r, l)

  -- so the last tells whether they are small
  pub order_last : {b : Bool} → b ≡ are_rising mem n → not b ≡ false → (n ≡ 0 → ⊥) → ltb (word mem (776 + n - 1)) 262144 ≡ (are_rising mem n && are_small mem n)
  unfolding are_small
  order_last {b} e h z =
      let r : are_rising mem n ≡ true = sym e ∙ not-false b h in
      rw r (same_truth (ltb (word mem (776 + n - 1)) 262144) (each_below n (λ i. ltb (assignment_word mem i) 262144))
      (λ t. so_each (λ i. ltb (assignment_word mem i) 262144) n (λ i l. lt-ltb (assignment_word mem i) 262144 (omega (arith, rising_last r i l, ltb-true (word mem (776 + n - 1)) 262144 t))))
      (λ t. let s : 776 + n - 1 ≡ 776 + (n - 1) = omega (arith, z) in
      let l = each_so (λ i. ltb (assignment_word mem i) 262144) n t (n - 1) (omega (arith, z)) in
      rw s l))
