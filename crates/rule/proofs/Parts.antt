-- The parts of the rule, one law for each answer of the code: a class, an association.
-- Assumes nothing.
use mathlib.Core.Path.{◌≡◌, refl, sym, ◌∙◌}
use mathlib.Core.Bool.{Bool, true, false, ◌&&◌}
use Prim.Native.Nat.{ℕ}
use borrow.Author.Tests.{eq-eqb, ne_eqb}
use lib.Dec.{eqb}
use Rattle.model.proofs.Truth.{clash, and_cut}
use Rattle.model.specs.Policy.{Association, Policy, has_right, kind_of}
use Rattle.rule.specs.Parts.{class_of, offers}

-- whether it is a class of the element
module _ (E : ℕ → Bool) (p : Policy) (c : ℕ) {k : ℕ} (is : k ≡ kind_of p c) where
  -- it is no class
  pub class_other : (k ≡ 5 → ⊥) → eqb k 5 ≡ class_of E p c
  unfolding class_of
  class_other h = rw (← is, ne_eqb k 5 h)

  -- it is a class
  pub class_within : k ≡ 5 → {b : Bool} → b ≡ E c → b ≡ class_of E p c
  unfolding class_of
  class_within h e = rw (← is, eq-eqb k 5 h) e

-- the value of one test and then another, which is made where the first passes
pub then_is : {x y v : Bool} → x ≡ true → v ≡ y → v ≡ (x && y)
then_is h e = rw h e

pub else_is : {x : Bool} (y : Bool) {v : Bool} → x ≡ false → v ≡ x → v ≡ (x && y)
else_is y h e = e ∙ (rw h refl)

-- whether the association gives the right
module _ (U E : ℕ → Bool) (r : ℕ) (a : Association) {s : ℕ} (set : s ≡ a.rights) {x : Bool} (has : x ≡ has_right s r) {v : Bool} (both : v ≡ (x && U a.attribute)) where
  -- it has not the right, or the user is not within its attribute
  pub offers_not : v ≡ false → v ≡ offers U E r a
  unfolding offers
  offers_not h = h ∙ (rw (← set, ← has) (go x (U a.attribute) (E a.target) (sym both ∙ h)))
    where
      go : (x u e : Bool) → (x && u) ≡ false → false ≡ (u && x && e)
      go true true e h = absurd (clash refl h)
      go true false e h = refl
      go false true e h = refl
      go false false e h = refl

  -- the element is within its target or not
  pub offers_within : v ≡ true → {t : ℕ} → t ≡ a.target → {z : Bool} → z ≡ E t → z ≡ offers U E r a
  unfolding offers
  offers_within h target {z} e =
      let both_so = and_cut x (U a.attribute) (sym both ∙ h) in
      rw (← set, ← has, both_so.0, both_so.1, ← target) e
