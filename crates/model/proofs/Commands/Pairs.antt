-- The pairs within after a command that adds or removes assignments.
-- Assumes nothing.
use mathlib.Core.Path.{◌≡◌, sym}
use mathlib.Core.Bool.{Bool, false, not, ◌&&◌}
use mathlib.Core.Logic.{◌⊎◌, inl, inr}
use Prim.Native.Nat.{ℕ}
use borrow.Author.Tests.{eqb-true, eqb-false, ne_eqb}
use lib.Dec.{eqb}
use Rattle.model.specs.Lists.{In, any_of, those, less_first}
use Rattle.model.specs.Policy.{Assignment, Policy, assignment_fields}
use Rattle.model.specs.Contain.{Within}
use Rattle.model.specs.Command.{assign, deassign, delete_element, in_use, after}
use Rattle.model.proofs.Truth.{Tested, passes, fails, tested, and_cut, or_fails, any_none, those_in, in_those, less_in, in_less, not_so}
use Rattle.model.proofs.Groups.{put_in, put_itself, put_kept}
use Rattle.model.proofs.Chains.{Joined, more_within, within_more, fewer_within, others_within}

module _ (p : Policy) (x y : ℕ) where
  abbrev the : Assignment
  the = record { child = x; container = y }

  -- after assign, a is within b exactly if it was, or a was within the child and the container within b
  pub assign_within : {a b : ℕ} → Within (after p (assign x y)).assignments a b → Joined p.assignments the a b
  unfolding after
  assign_within w = more_within the (λ c i. put_in assignment_fields the p.assignments i) w

  pub within_assign : {a b : ℕ} → Joined p.assignments the a b → Within (after p (assign x y)).assignments a b
  unfolding after
  within_assign j = within_more the (λ c i. put_kept assignment_fields the i) (put_itself assignment_fields the p.assignments) j

  -- after deassign, a is within b only if it was, and it still is unless every chain went over the assignment: what was within is joined by
  -- the assignments that are left, or by them and the one taken away
  pub deassign_within : {a b : ℕ} → Within (after p (deassign x y)).assignments a b → Within p.assignments a b
  unfolding after
  deassign_within w = fewer_within (λ c i. less_in (λ d. eqb x d.child && eqb y d.container) p.assignments i) w

  pub within_deassign : {a b : ℕ} → Within p.assignments a b → Joined (after p (deassign x y)).assignments the a b
  unfolding after
  within_deassign w = more_within the (λ c i. go c i (tested (eqb x c.child && eqb y c.container))) w
    where
      gone : Assignment → Bool
      gone d = eqb x d.child && eqb y d.container

      go : (c : Assignment) → In c p.assignments → Tested (gone c) → (c ≡ the) ⊎ In c (less_first gone p.assignments)
      go c i (passes h) =
          let k = and_cut (eqb x c.child) (eqb y c.container) h in
          let q : x ≡ c.child = eqb-true x c.child k.0 in
          let r : y ≡ c.container = eqb-true y c.container k.1 in
          inl (λ i. record { child = sym q i; container = sym r i })
      go c i (fails h) = inr (in_less gone i h)

-- after an element to which nothing is assigned is deleted, the others are within what they were
pub delete_within : (p : Policy) (x : ℕ) {a b : ℕ} → Within (after p (delete_element x)).assignments a b → Within p.assignments a b
unfolding after
delete_within p x w = fewer_within (λ c i. those_in (λ d. not (eqb x d.child)) p.assignments i) w

pub within_delete : (p : Policy) (x : ℕ) → in_use p x ≡ false → {a b : ℕ} → (a ≡ x → ⊥) → Within p.assignments a b → Within (after p (delete_element x)).assignments a b
unfolding after in_use
within_delete p x e d w = others_within x free stays d w
  where
    unassigned : any_of (λ a. eqb a.container x) p.assignments ≡ false
    unassigned = (or_fails _ _ (or_fails _ _ (or_fails _ _ e).0).0).0

    free : (a : Assignment) → In a p.assignments → a.container ≡ x → ⊥
    free a i = eqb-false a.container x (any_none (λ a. eqb a.container x) unassigned i)

    stays : (a : Assignment) → In a p.assignments → (a.child ≡ x → ⊥) → In a (those (λ d. not (eqb x d.child)) p.assignments)
    stays a i n = in_those (λ d. not (eqb x d.child)) i (not_so (eqb x a.child) (ne_eqb x a.child (λ q. n (sym q))))
