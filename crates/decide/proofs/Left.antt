-- A set of rights told off from right 0 up: what is left of it, and that no right comes any more where nothing is left.
-- Assumes nothing.
use mathlib.Core.Path.{◌≡◌, refl, sym, ap, ◌∙◌}
use mathlib.Core.Bool.{Bool, false, cond}
use mathlib.Core.List.{List, ◌∷◌}
use Prim.Native.Nat.{ℕ, zero, suc, ◌+◌, ◌-◌, ◌/◌, ◌^◌, ◌≤◌, ◌<◌}
use native.Mathlib.Nat.{zero-div, div-one}
use native.Mathlib.Decide.{dec_lt}
use native.Mathlib.Omega.{arith}
use lib.Pow.{shr_lt, shr-shr}
use Rattle.model.specs.Lists.{those, tabulate}
use Rattle.model.specs.Policy.{has_right}
use Rattle.request.specs.Sets.{rights_in}

-- where none passes a test from place n on, those that pass are among the first n
those_early : {A : Type 0} (t : A → Bool) (n m : ℕ) (f : ℕ → A) → n ≤ m → ((j : ℕ) → n ≤ j → t (f j) ≡ false)
    → those t (tabulate m f) ≡ those t (tabulate n f)
unfolding those tabulate
those_early t zero zero f l h = refl
those_early t zero (suc m) f l h = rw (h 0 (omega arith)) (those_early t zero m (λ i. f (suc i)) (omega arith) (λ j k. h (suc j) (omega arith)))
those_early t (suc n) zero f l h = absurd (omega arith)
those_early {A} t (suc n) (suc m) f l h =
    ap (λ (x : List A). cond (t (f 0)) (f 0 ∷ x) x) (those_early t n m (λ i. f (suc i)) (omega arith) (λ j k. h (suc j) (omega arith)))

-- what is left of the set from right r on, as if that were right 0
pub record Left (rights r left : ℕ) : Type 0 where
  pub fits : rights < 2 ^ 32
  pub near : r ≤ 32
  pub is : left ≡ rights / 2 ^ r

-- from right 0 on it is the whole set
pub left_whole : {rights : ℕ} → rights < 2 ^ 32 → Left rights 0 rights
left_whole {rights} h = record { fits = h; near = omega arith; is = sym (div-one rights) }

-- What is left from right r on.
module _ {rights r left : ℕ} (w : Left rights r left) where
  -- something: so there is a right r
  pub left_near : 0 < left → r < 32
  left_near h = elim (dec_lt r 32) [
    | yes l ↦ l
    | no n ↦
        let e : r ≡ 32 = omega (arith, w.near) in
        let i : left ≡ rights / 2 ^ 32 = rw e at w.is in
        absurd (omega (arith, i, shr_lt {n = rights} 0 32 w.fits))
  ]

  -- and half of it is left from the next on
  pub left_next : 0 < left → Left rights (r + 1) (left / 2)
  left_next h = record { fits = w.fits; near = omega (arith, left_near h); is = rw w.is (shr-shr rights r 1) }

  -- nothing: no right from r on is in the set
  pub none_left : left ≤ 0 → (j : ℕ) → r ≤ j → has_right rights j ≡ false
  unfolding has_right
  none_left h j l =
      let z : left ≡ 0 = omega arith in
      let e : j ≡ r + (j - r) = omega arith in
      let f : rights / 2 ^ (r + (j - r)) ≡ 0 = sym (shr-shr rights r (j - r)) ∙ ap (λ (x : ℕ). x / 2 ^ (j - r)) (sym w.is ∙ z) ∙ zero-div (2 ^ (j - r)) in
      let g : rights / 2 ^ j ≡ 0 = ap (λ (x : ℕ). rights / 2 ^ x) e ∙ f in
      rw g

  -- so the rights of the set are those below r
  pub rights_below : left ≤ 0 → rights_in rights ≡ those (has_right rights) (tabulate r (λ j. j))
  unfolding rights_in
  rights_below h = those_early (has_right rights) r 32 (λ j. j) w.near (none_left h)
