-- The first right of a set that is not permitted: the loop over the rights, the row that it answers, and what that says of the whole set.
-- Assumes nothing.
use mathlib.Core.Path.{◌≡◌, refl}
use mathlib.Core.Bool.{Bool, true, false, not, cond, ◌&&◌, ◌||◌}
use mathlib.Core.List.{List, [], ◌∷◌}
use Prim.Native.Nat.{ℕ, zero, suc, ◌+◌, ◌≤◌, ◌<◌}
use native.Mathlib.Omega.{arith}
use native.Mathlib.Decide.{dec_lt}
use borrow.Author.Tests.{lt-ltb, le-ltb}
use lib.Dec.{eqb, ltb}
use lib.ListN.{get_or}
use Rattle.model.specs.Lists.{In, first, later, all_of, those, tabulate, two}
use Rattle.model.specs.Policy.{Policy, has_right}
use Rattle.model.specs.Contain.{contained}
use Rattle.model.proofs.Truth.{clash, those_in}
use Rattle.table.specs.View.{policy_of}
use Rattle.table.proofs.Tabled.{tabulate_in}
use Rattle.request.specs.Sets.{rights_in}
use Rattle.rule.specs.declared.Asking.{Asking}
use Rattle.held.specs.Lacking.{lack_by}
use Rattle.decide.specs.Asks.{with_right, permits_over, permits_all}
use Rattle.decide.proofs.Left.{Left, left_near, rights_below}
use Rattle.denials.specs.Causes.{lowest_through, cause_for, why_not, why_in}
use Rattle.denials.specs.Failing.{first_or32, first_failing_right, failing_numbers, failing_row}

-- Of the numbers that pass h, those that do not pass g.
module _ (h g : ℕ → Bool) where
  -- one that does not pass h, or passes g, is not among them
  skipped : (a : ℕ) (l : List ℕ) → (not (h a) || g a) ≡ true → those (λ r. not (g r)) (those h (a ∷ l)) ≡ those (λ r. not (g r)) (those h l)
  unfolding those
  skipped a l e = go (h a) (g a) refl e
    where
      go : (x y : Bool) → g a ≡ y → (not x || y) ≡ true → those (λ r. not (g r)) (cond x (a ∷ those h l) (those h l)) ≡ those (λ r. not (g r)) (those h l)
      go true true t e = rw t
      go true false t e = absurd (clash e refl)
      go false y t e = refl

  -- the first that is
  first_found : (n i : ℕ) (f : ℕ → ℕ) → i < n → (not (h (f i)) || g (f i)) ≡ false → ((j : ℕ) → j < i → (not (h (f j)) || g (f j)) ≡ true)
      → first_or32 (those (λ r. not (g r)) (those h (tabulate n f))) ≡ f i
  unfolding those tabulate
  first_found zero i f l e k = absurd (omega arith)
  first_found (suc n) zero f l e k = go (h (f 0)) (g (f 0)) refl e
    where
      go : (x y : Bool) → g (f 0) ≡ y → (not x || y) ≡ false
          → first_or32 (those (λ r. not (g r)) (cond x (f 0 ∷ those h (tabulate n (λ j. f (suc j)))) (those h (tabulate n (λ j. f (suc j)))))) ≡ f 0
      go true true t e = absurd (clash refl e)
      go true false t e = rw t
      go false y t e = absurd (clash refl e)
  first_found (suc n) (suc i) f l e k =
      rw (skipped (f 0) (tabulate n (λ j. f (suc j))) (k 0 (omega arith))) (first_found n i (λ j. f (suc j)) (omega arith) e (λ j m. k (suc j) (omega arith)))

  -- none is
  first_none : (n : ℕ) (f : ℕ → ℕ) → ((j : ℕ) → j < n → (not (h (f j)) || g (f j)) ≡ true) → first_or32 (those (λ r. not (g r)) (those h (tabulate n f))) ≡ 32
  unfolding those tabulate
  first_none zero f k = refl
  first_none (suc n) f k =
      rw (skipped (f 0) (tabulate n (λ j. f (suc j))) (k 0 (omega arith))) (first_none n (λ j. f (suc j)) (λ j m. k (suc j) (omega arith)))

-- each right of the set below r is permitted
pub record PermittedBelow (mem : List ℕ) (q : Asking) (rights r : ℕ) : Type 0 where
  pub each : (j : ℕ) → j < r → (not (has_right rights j) || permits_over (contained (policy_of mem)) (policy_of mem) q j) ≡ true

-- a cause is 1 or more
cause_some : (p : Policy) (q : Asking) → 0 < get_or (cause_for p q) 0 0
unfolding cause_for
cause_some p q =
    let lacks = lack_by (contained p) p q.user q.right q.element in
    let attribute = lowest_through p q 3 in
    go (eqb lacks 512) (eqb (lowest_through p q 1) 512) (eqb (lowest_through p q 2) 512) lacks (lowest_through p q 1) (lowest_through p q 2) (cond (eqb attribute 512) 0 attribute)
  where
    go : (x y z : Bool) (i j k l : ℕ) → 0 < get_or (cond (not x) (two 1 i) (cond (not y) (two 2 j) (cond (not z) (two 3 k) (two 4 l)))) 0 0
    go false y z i j k l = omega arith
    go true false z i j k l = omega arith
    go true true false i j k l = omega arith
    go true true true i j k l = omega arith

-- What is told of a right says whether it is permitted if it is in the set.
module _ (p : Policy) (q : Asking) (rights r : ℕ) where
  -- no cause: it is
  passes_why : get_or (why_in p q rights r) 0 0 ≤ 0 → (not (has_right rights r) || permits_over (contained p) p q r) ≡ true
  unfolding why_in why_not permits_over
  passes_why = go (has_right rights r) (permits_over (contained p) p q r)
    where
      go : (x y : Bool) → get_or (cond x (cond y (two 0 0) (cause_for p (with_right q r))) (two 0 0)) 0 0 ≤ 0 → (not x || y) ≡ true
      go true true l = refl
      go true false l = absurd (omega (arith, cause_some p (with_right q r)))
      go false y l = refl

  -- a cause: it is not
  fails_why : 0 < get_or (why_in p q rights r) 0 0 → (not (has_right rights r) || permits_over (contained p) p q r) ≡ false
  unfolding why_in why_not permits_over
  fails_why = go (has_right rights r) (permits_over (contained p) p q r)
    where
      go : (x y : Bool) → 0 < get_or (cond x (cond y (two 0 0) (cause_for p (with_right q r))) (two 0 0)) 0 0 → (not x || y) ≡ false
      go true true l = absurd (omega arith)
      go true false l = refl
      go false y l = absurd (omega arith)

  -- and that is the cause for which it is not
  cause_why : 0 < get_or (why_in p q rights r) 0 0 → why_in p q rights r ≡ cause_for p (with_right q r)
  unfolding why_in why_not permits_over
  cause_why = go (has_right rights r) (permits_over (contained p) p q r)
    where
      go : (x y : Bool) → 0 < get_or (cond x (cond y (two 0 0) (cause_for p (with_right q r))) (two 0 0)) 0 0
          → cond x (cond y (two 0 0) (cause_for p (with_right q r))) (two 0 0) ≡ cause_for p (with_right q r)
      go true true l = absurd (omega arith)
      go true false l = refl
      go false y l = absurd (omega arith)

-- The loop over the rights.
module _ (mem : List ℕ) (q : Asking) (rights : ℕ) where
  -- none at the start
  pub permitted_none : PermittedBelow mem q rights 0
  permitted_none = record { each = λ j l. absurd (omega arith) }

  module _ {r : ℕ} (p : PermittedBelow mem q rights r) {why : List ℕ} (is : why ≡ why_in (policy_of mem) q rights r) where
    -- a turn
    pub permitted_more : get_or why 0 0 ≤ 0 → PermittedBelow mem q rights (r + 1)
    permitted_more h = record {
      each = λ j k. elim (dec_lt j r) [
        | yes y ↦ p.each j y
        | no n ↦ let e : j ≡ r = omega arith in rw e (passes_why (policy_of mem) q rights r (rw is at h))
      ];
    }

    -- the first that fails
    pub right_fails : {left : ℕ} → Left rights r left → 0 < left → (alternative k : ℕ) → 0 < get_or why 0 0
        → (alternative ∷ k ∷ r ∷ get_or why 0 0 ∷ get_or why 1 0 ∷ 0 ∷ 0 ∷ 0 ∷ []) ≡ failing_row (policy_of mem) q rights alternative k
    unfolding failing_row failing_numbers first_failing_right rights_in
    right_fails w l alternative k h =
        let some : 0 < get_or (why_in (policy_of mem) q rights r) 0 0 = rw is at h in
        let low : r < 32 = left_near w l in
        rw (
          first_found (has_right rights) (permits_over (contained (policy_of mem)) (policy_of mem) q) 32 r (λ j. j) low (fails_why (policy_of mem) q rights r some) p.each,
          lt-ltb r 32 low,
          is,
          cause_why (policy_of mem) q rights r some,
        )

  -- none is left: none fails
  pub none_fails : {r left : ℕ} → PermittedBelow mem q rights r → Left rights r left → left ≤ 0 → (alternative k : ℕ)
      → (0 ∷ 0 ∷ 0 ∷ 0 ∷ 0 ∷ 0 ∷ 0 ∷ 0 ∷ []) ≡ failing_row (policy_of mem) q rights alternative k
  unfolding failing_row first_failing_right
  none_fails {r} p w h alternative k =
      rw (rights_below w h, first_none (has_right rights) (permits_over (contained (policy_of mem)) (policy_of mem) q) r (λ j. j) p.each)

-- The row of a set of rights: whether it has a cause says whether some right fails.
module _ (p : Policy) (q : Asking) (rights alternative k : ℕ) where
  -- there is a right that fails: its row
  pub row_of : first_failing_right p q rights < 32 → failing_row p q rights alternative k ≡ failing_numbers p (with_right q (first_failing_right p q rights)) alternative k
  unfolding failing_row
  row_of l = rw (lt-ltb (first_failing_right p q rights) 32 l)

  -- it has a cause
  pub row_some : 0 < get_or (failing_row p q rights alternative k) 3 0 → first_failing_right p q rights < 32
  unfolding failing_row
  row_some = go (first_failing_right p q rights)
    where
      go : (r : ℕ) → 0 < get_or (cond (ltb r 32) (failing_numbers p (with_right q r) alternative k) (0 ∷ 0 ∷ 0 ∷ 0 ∷ 0 ∷ 0 ∷ 0 ∷ 0 ∷ [])) 3 0 → r < 32
      go r h = elim (dec_lt r 32) [
        | yes l ↦ l
        | no n ↦ let far : 32 ≤ r = omega arith in absurd (omega (arith, rw (le-ltb r 32 far) at h))
      ]

  -- it has none
  pub row_none : get_or (failing_row p q rights alternative k) 3 0 ≤ 0 → 32 ≤ first_failing_right p q rights
  unfolding failing_row failing_numbers
  row_none = go (first_failing_right p q rights)
    where
      go : (r : ℕ) → get_or (cond (ltb r 32) (failing_numbers p (with_right q r) alternative k) (0 ∷ 0 ∷ 0 ∷ 0 ∷ 0 ∷ 0 ∷ 0 ∷ 0 ∷ [])) 3 0 ≤ 0 → 32 ≤ r
      go r h = elim (dec_lt r 32) [
        | yes l ↦ absurd (omega (arith, rw (lt-ltb r 32 l) at h, cause_some p (with_right q r)))
        | no n ↦ omega arith
      ]

-- each right of a set is below 32
pub right_low : (rights : ℕ) {r : ℕ} → In r (rights_in rights) → r < 32
unfolding rights_in
right_low rights i =
    let t = tabulate_in 32 (λ r. r) (those_in (has_right rights) (tabulate 32 (λ r. r)) i) in
    omega (arith, t.early, t.is)

-- A test on numbers below 32, and the first that fails it.
module _ (t : ℕ → Bool) where
  -- some fails: the first that does is below 32
  fails_low : (l : List ℕ) → ((r : ℕ) → In r l → r < 32) → all_of t l ≡ false → first_or32 (those (λ r. not (t r)) l) < 32
  unfolding all_of those
  fails_low [] h e = absurd (clash refl e)
  fails_low (a ∷ l) h e = go (t a) e (fails_low l (λ r i. h r (later i)))
    where
      go : (b : Bool) → (b && all_of t l) ≡ false → (all_of t l ≡ false → first_or32 (those (λ r. not (t r)) l) < 32)
          → first_or32 (cond (not b) (a ∷ those (λ r. not (t r)) l) (those (λ r. not (t r)) l)) < 32
      go true e k = k e
      go false e k = h a first

  -- none does: all pass
  passes_high : (l : List ℕ) → ((r : ℕ) → In r l → r < 32) → 32 ≤ first_or32 (those (λ r. not (t r)) l) → all_of t l ≡ true
  unfolding all_of those
  passes_high [] h e = refl
  passes_high (a ∷ l) h e = go (t a) e (passes_high l (λ r i. h r (later i)))
    where
      go : (b : Bool) → 32 ≤ first_or32 (cond (not b) (a ∷ those (λ r. not (t r)) l) (those (λ r. not (t r)) l))
          → (32 ≤ first_or32 (those (λ r. not (t r)) l) → all_of t l ≡ true) → (b && all_of t l) ≡ true
      go true e k = k e
      go false e k = absurd (omega (arith, e, h a first))

-- What the first failing right says of the whole set.
module _ (p : Policy) (q : Asking) (rights : ℕ) where
  -- not each right of the set is permitted: there is a first that is not
  pub failing_low : permits_all (contained p) p q rights ≡ false → first_failing_right p q rights < 32
  unfolding permits_all first_failing_right
  failing_low e = fails_low (permits_over (contained p) p q) (rights_in rights) (λ r i. right_low rights i) e

  -- there is none: each is permitted
  pub failing_none : 32 ≤ first_failing_right p q rights → permits_all (contained p) p q rights ≡ true
  unfolding permits_all first_failing_right
  failing_none e = passes_high (permits_over (contained p) p q) (rights_in rights) (λ r i. right_low rights i) e
