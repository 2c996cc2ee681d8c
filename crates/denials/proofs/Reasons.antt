-- Why a right is not permitted: each return.
-- Assumes nothing.
use mathlib.Core.Path.{◌≡◌, refl, sym, ap, ◌∙◌}
use mathlib.Core.Bool.{Bool, true, false, not, cond}
use mathlib.Core.List.{List}
use Prim.Native.Nat.{ℕ}
use borrow.Author.Tests.{eqb-true, eqb-false, eq-eqb, ne_eqb, not-true, not-false}
use lib.Dec.{eqb}
use Rattle.std.specs.Prelude.{Option, Some, None, unwrap_or}
use Rattle.std.proofs.lemmas.Option.{none-some, same_Some}
use Rattle.model.specs.Lists.{two}
use Rattle.model.specs.Policy.{Policy, has_right}
use Rattle.model.specs.Contain.{contained}
use Rattle.model.specs.Rule.{restricted_by}
use Rattle.model.proofs.Truth.{Tested, passes, fails, tested}
use Rattle.table.specs.View.{policy_of}
use Rattle.rule.specs.Sight.{seen}
use Rattle.rule.specs.declared.Asking.{Asking}
use Rattle.held.specs.declared.Holding.{Holding}
use Rattle.held.specs.declared.Holding.TheVariants.{Held, NoClass, LackedIn}
use Rattle.held.specs.Lacking.{lack_by, as_holding, sight, Rows}
use Rattle.held.proofs.Sighted.{Says, says, permits_lacking, permits_rest}
use Rattle.decide.specs.Asks.{with_right, permits_over}
use Rattle.denials.specs.Causes.{lowest_through, as_subject, cause_for, why_not, why_in}

-- a subject is told: it is that number
some_subject : {n u : ℕ} → Some u ≡ as_subject n → (n ≡ u) × (n ≡ 512 → ⊥)
some_subject {n} {u} e = go (tested (eqb n 512))
  where
    go : Tested (eqb n 512) → (n ≡ u) × (n ≡ 512 → ⊥)
    go (passes t) = absurd (none-some u (sym (rw t at e)))
    go (fails t) = (same_Some n u (sym (rw t at e)), eqb-false n 512 t)

-- none is told: it is 512
no_subject : {n : ℕ} → None ≡ as_subject n → n ≡ 512
no_subject {n} e = go (tested (eqb n 512))
  where
    go : Tested (eqb n 512) → n ≡ 512
    go (passes t) = eqb-true n 512 t
    go (fails t) = absurd (none-some n (rw t at e))

-- A right that is held: the causes from 2 up.
module _ (p : Policy) (q : Asking) (held : lack_by (contained p) p q.user q.right q.element ≡ 512) where
  -- it is restricted through the user
  pub cause_user : {u : ℕ} → Some u ≡ as_subject (lowest_through p q 1) → two 2 u ≡ cause_for p q
  unfolding cause_for
  cause_user e = let r = some_subject e in rw (held, ne_eqb (lowest_through p q 1) 512 r.1, r.0)

  module _ (no_user : None ≡ as_subject (lowest_through p q 1)) where
    -- through the process
    pub cause_process : {o : ℕ} → Some o ≡ as_subject (lowest_through p q 2) → two 3 o ≡ cause_for p q
    unfolding cause_for
    cause_process e =
        let r = some_subject e in
        rw (held, eq-eqb (lowest_through p q 1) 512 (no_subject no_user), ne_eqb (lowest_through p q 2) 512 r.1, r.0)

    -- through an attribute, or through nothing
    pub cause_attribute : None ≡ as_subject (lowest_through p q 2) → {o : Option ℕ} → o ≡ as_subject (lowest_through p q 3) → two 4 (unwrap_or o 0) ≡ cause_for p q
    unfolding cause_for
    cause_attribute no_process e =
        rw (held, eq-eqb (lowest_through p q 1) 512 (no_subject no_user), eq-eqb (lowest_through p q 2) 512 (no_subject no_process), e) (ap (two 4) (go (eqb (lowest_through p q 3) 512)))
      where
        go : (b : Bool) → unwrap_or (cond b None (Some (lowest_through p q 3))) 0 ≡ cond b 0 (lowest_through p q 3)
        go true = refl
        go false = refl

-- Whether it is held, then whether it is restricted.
module _ (mem rows : List ℕ) (q : Asking) where
  -- what lacks by rows of marks is what lacks by chains of assignments
  lacks_contained : {h : Holding} → h ≡ as_holding (lack_by (sight mem rows false) (policy_of mem) q.user q.right q.element)
      → Says h (lack_by (contained (policy_of mem)) (policy_of mem) q.user q.right q.element)
  unfolding sight
  lacks_contained e = says _ e

  module _ {n : ℕ} (lacks : (lack_by (contained (policy_of mem)) (policy_of mem) q.user q.right q.element ≡ n) × (lack_by (contained (policy_of mem)) (policy_of mem) q.user q.right q.element ≡ 512 → ⊥)) where
    -- it is not held
    why_lacking : two 1 n ≡ why_not (policy_of mem) q
    unfolding why_not permits_over cause_for
    why_lacking = rw (
      ← permits_lacking (contained (policy_of mem)) mem q.process q.user q.right q.element lacks.1,
      ne_eqb (lack_by (contained (policy_of mem)) (policy_of mem) q.user q.right q.element) 512 lacks.1,
      lacks.0,
    )

  -- there is no class
  pub why_no_class : NoClass ≡ as_holding (lack_by (sight mem rows false) (policy_of mem) q.user q.right q.element) → two 1 0 ≡ why_not (policy_of mem) q
  why_no_class e = why_lacking (lacks_contained e)

  -- it is lacked in a class
  pub why_lacked : {c : ℕ} → LackedIn c ≡ as_holding (lack_by (sight mem rows false) (policy_of mem) q.user q.right q.element) → two 1 c ≡ why_not (policy_of mem) q
  why_lacked e = why_lacking (lacks_contained e)

  module _ (held : Held ≡ as_holding (lack_by (sight mem rows false) (policy_of mem) q.user q.right q.element)) where
    -- it is held, by chains of assignments too
    pub lacks_nothing : lack_by (contained (policy_of mem)) (policy_of mem) q.user q.right q.element ≡ 512
    lacks_nothing = lacks_contained held

    module _ (w : Rows mem rows false q) {b : Bool}
        (is : b ≡ restricted_by (seen rows false q.by) (seen rows false q.over) (policy_of mem) q.process q.user q.right q.element) where
      -- it is permitted unless it is restricted
      permitted_as : permits_over (contained (policy_of mem)) (policy_of mem) q q.right ≡ not b
      unfolding permits_over sight
      permitted_as = sym (permits_rest mem rows false q w lacks_nothing is)

      -- it is not restricted
      pub why_free : b ≡ false → two 0 0 ≡ why_not (policy_of mem) q
      unfolding why_not
      why_free h = rw (permitted_as, h)

      -- it is restricted
      pub why_restricted : b ≡ true → {why : List ℕ} → why ≡ cause_for (policy_of mem) q → why ≡ why_not (policy_of mem) q
      unfolding why_not
      why_restricted h e = rw (permitted_as, h) e

-- A right that is in the set or not.
module _ (p : Policy) (q : Asking) (rights r : ℕ) {b : Bool} (e : b ≡ has_right rights r) where
  -- it is not in the set
  pub why_unasked : not b ≡ true → two 0 0 ≡ why_in p q rights r
  unfolding why_in
  why_unasked h = rw (sym e ∙ not-true b h)

  -- it is in the set
  pub why_asked : not b ≡ false → {a : Asking} → a ≡ with_right q r → {why : List ℕ} → why ≡ why_not p a → why ≡ why_in p q rights r
  unfolding why_in
  why_asked h i f = rw (sym e ∙ not-false b h) (f ∙ ap (why_not p) i)
