-- Records with ids, each id above the one before it, looked at from the first on.
-- Assumes nothing.
use mathlib.Core.Path.{◌≡◌, refl, sym, ◌∙◌}
use mathlib.Core.Bool.{Bool, true, false, ◌&&◌, and-false}
use mathlib.Core.List.{List, [], ◌∷◌}
use Prim.Native.Nat.{ℕ, ◌+◌, ◌-◌, suc, ◌<◌}
use native.Mathlib.Omega.{arith}
use borrow.Author.Tests.{lt-ltb}
use lib.Dec.{ltb}
use Rattle.model.specs.Lists.{all_of, precedes, rising}
use Rattle.model.specs.Image.{Reading, read_group}
use Rattle.model.proofs.Truth.{passes, fails, tested}
use Rattle.model.proofs.Order.{before_one}

-- where one more record is to be read, it comes first
pub one_read : {A : Type 0} (read : List Bool → Reading A) (n i : ℕ) (l : List Bool) → i < n
    → (read_group read (n - i) l).value ≡ (read l).value ∷ (read_group read (n - (i + 1)) (read l).rest).value
unfolding read_group
one_read read n i l h = let e : n - i ≡ suc (n - (i + 1)) = omega arith in rw e

-- the factors of a product in another order
factors : (x r p q s : Bool) → (x && r && (p && (q && s))) ≡ (x && (r && q && (p && s)))
factors false r p q s = refl
factors true false p q s = refl
factors true true true q s = refl
factors true true false q s = sym (and-false q)

module _ {A : Type 0} (id : A → ℕ) (right : A → Bool) where
  -- each is right, and each id is above the one before it, the first above `last`
  unfoldable pub up_from : (last : ℕ) → List A → Bool
  up_from last [] = true
  up_from last (a ∷ l) = ltb last (id a) && right a && up_from (id a) l

  -- the first id is above `last`
  unfoldable above : (last : ℕ) → List A → Bool
  above last [] = true
  above last (a ∷ l) = ltb last (id a)

  -- one is before what comes first if that is above it
  precedes_above : (a : A) (l : List A) → precedes (λ x. id x ∷ []) a l ≡ above (id a) l
  unfolding precedes above
  precedes_above a [] = refl
  precedes_above a (b ∷ l) = before_one (id a) (id b)

  -- they are right and rise, and the first is above `last`
  up_is : (last : ℕ) (l : List A) → up_from last l ≡ (above last l && (all_of right l && rising (λ x. id x ∷ []) l))
  unfolding up_from above all_of rising
  up_is last [] = refl
  up_is last (a ∷ l) =
      rw (up_is (id a) l, precedes_above a l)
      (factors (ltb last (id a)) (right a) (above (id a) l) (all_of right l) (rising (λ x. id x ∷ []) l))

  -- where what is right has no id 0, they are right and rise
  pub up_rises : ((a : A) → right a ≡ true → 0 < id a) → (l : List A) → (all_of right l && rising (λ x. id x ∷ []) l) ≡ up_from 0 l
  unfolding above all_of
  up_rises h [] = sym (up_is 0 [])
  up_rises h (a ∷ l) = elim (tested (right a)) [
    | passes t ↦ sym (up_is 0 (a ∷ l) ∙ rw (lt-ltb 0 (id a) (h a t)))
    | fails t ↦ sym (up_is 0 (a ∷ l) ∙ rw t (and-false (ltb 0 (id a))))
  ]
