-- The rights of a set, one after another: each that is asked is held over the element and not restricted.
-- Assumes nothing.
use mathlib.Core.Path.{◌≡◌, refl, sym, ap, ◌∙◌}
use mathlib.Core.Bool.{Bool, true, false, not, cond, ◌&&◌, ◌||◌, and-true}
use mathlib.Core.List.{List, [], ◌∷◌}
use Prim.Native.Nat.{ℕ, zero, suc, ◌+◌, ◌≤◌, ◌<◌}
use native.Mathlib.Omega.{arith}
use borrow.Author.Tests.{not-true, not-false}
use Rattle.model.specs.Lists.{all_of, those, tabulate}
use Rattle.model.specs.Policy.{Policy, has_right}
use Rattle.model.proofs.Truth.{clash, fails_when, or_fails, all_in, in_those}
use Rattle.table.proofs.Tabled.{in_tabulate}
use Rattle.request.specs.Sets.{rights_in}
use Rattle.rule.specs.declared.Asking.{Asking}
use Rattle.held.specs.Lacking.{Rows, permits}
use Rattle.decide.specs.Asks.{with_right, permits_over, permits_all}
use Rattle.decide.proofs.Left.{Left, left_near, rights_below}

-- one more in a list that is told off one by one: those that pass one test pass another exactly if those before it do, and it does where it passes the first
all_those : {A : Type 0} (f h : A → Bool) (g : ℕ → A) (n : ℕ)
    → all_of h (those f (tabulate (suc n) g)) ≡ (all_of h (those f (tabulate n g)) && (not (f (g n)) || h (g n)))
unfolding all_of those tabulate
all_those {A} f h g zero = go (f (g 0))
  where
    go : (t : Bool) → all_of h (cond t (g 0 ∷ []) []) ≡ (not t || h (g 0))
    go true = and-true (h (g 0))
    go false = refl
all_those {A} f h g (suc n) = go (f (g 0)) (all_those f h (λ i. g (suc i)) n)
  where
    long : List A
    long = those f (tabulate (suc n) (λ i. g (suc i)))

    short : List A
    short = those f (tabulate n (λ i. g (suc i)))

    last : Bool
    last = not (f (g (suc n))) || h (g (suc n))

    go : (t : Bool) → all_of h long ≡ (all_of h short && last)
        → all_of h (cond t (g 0 ∷ long) long) ≡ (all_of h (cond t (g 0 ∷ short) short) && last)
    go true e = and_step (h (g 0)) e
      where
        and_step : (b : Bool) → all_of h long ≡ (all_of h short && last) → (b && all_of h long) ≡ (b && all_of h short && last)
        and_step true e = e
        and_step false e = refl
    go false e = e

-- A right that is in the set or not.
module _ (W : ℕ → ℕ → Bool) (p : Policy) (q : Asking) (rights r : ℕ) {s : Bool} (e : s ≡ has_right rights r) where
  -- it is not in the set: nothing is asked
  pub not_asked : not s ≡ true → true ≡ (not (has_right rights r) || permits_over W p q r)
  not_asked h = rw (sym e ∙ not-true s h)

  -- it is in the set: it is asked
  pub is_asked : not s ≡ false → {a : Asking} → a ≡ with_right q r → {t : Bool} → t ≡ permits W p a.process a.user a.right a.element
      → t ≡ (not (has_right rights r) || permits_over W p q r)
  unfolding permits_over
  is_asked h i f = rw (sym e ∙ not-false s h) (f ∙ ap (λ (b : Asking). permits W p b.process b.user b.right b.element) i)

-- the rows of what is asked are those of the same with another right
pub rows_with_right : {mem rows : List ℕ} {indexed : Bool} {q a : Asking} {r : ℕ} → Rows mem rows indexed q → a ≡ with_right q r → Rows mem rows indexed a
rows_with_right {mem} {rows} {indexed} {q} {a} {r} w i = rw i (record { whole = w.whole; user = w.user; element = w.element })

-- and its right is that other one
pub right_with_right : (q : Asking) {a : Asking} {r : ℕ} → a ≡ with_right q r → r < 32 → a.right < 32
right_with_right q {a} {r} i l = let e : a.right ≡ r = ap (λ (b : Asking). b.right) i in omega arith

-- of the rights below n, each that is in the set is held over the element and not restricted
pub record AllowedBelow (W : ℕ → ℕ → Bool) (p : Policy) (q : Asking) (rights n : ℕ) : Type 0 where
  pub so : all_of (permits_over W p q) (those (has_right rights) (tabulate n (λ r. r))) ≡ true

-- Right by right.
module _ {W : ℕ → ℕ → Bool} {p : Policy} {q : Asking} {rights : ℕ} where
  -- there is none below 0
  pub allowed_none : AllowedBelow W p q rights 0
  unfolding all_of those tabulate
  allowed_none = record { so = refl }

  module _ {n left : ℕ} (a : AllowedBelow W p q rights n) (w : Left rights n left) (l : 0 < left) {s : Bool} (e : s ≡ (not (has_right rights n) || permits_over W p q n)) where
    -- one more is allowed
    pub allowed_more : not s ≡ false → AllowedBelow W p q rights (n + 1)
    allowed_more h =
        let one : n + 1 ≡ suc n = omega arith in
        record { so = rw (one, all_those (has_right rights) (permits_over W p q) (λ r. r) n, a.so) (sym e ∙ not-false s h) }

    -- one is not
    pub allowed_fails : not s ≡ true → false ≡ permits_all W p q rights
    unfolding permits_all rights_in
    allowed_fails h =
        let k = or_fails (not (has_right rights n)) (permits_over W p q n) (sym e ∙ not-true s h) in
        let i = in_those (has_right rights) (in_tabulate 32 (λ r. r) n (left_near w l)) (not-false (has_right rights n) k.0) in
        sym (fails_when (permits_all W p q rights) (λ t. clash (all_in (permits_over W p q) t i) k.1))

  -- none is left: each is allowed
  pub allowed_all : {n left : ℕ} → AllowedBelow W p q rights n → Left rights n left → left ≤ 0 → true ≡ permits_all W p q rights
  unfolding permits_all
  allowed_all a w h = sym (rw (rights_below w h) a.so)
