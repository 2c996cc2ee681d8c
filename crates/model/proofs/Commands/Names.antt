-- What records name: it stays right where the kinds and users of what is named stay, and an element that is not there is not named.
-- Assumes nothing.
use mathlib.Core.Path.{◌≡◌, refl, sym, ap, ◌∙◌}
use mathlib.Core.Bool.{Bool, true, false, not, cond, ◌&&◌, ◌||◌}
use mathlib.Core.List.{List}
use mathlib.Core.Logic.{◌⊎◌, inl, inr}
use Prim.Native.Nat.{ℕ}
use borrow.Author.Tests.{eqb-false, not-true}
use lib.Dec.{eqb}
use Rattle.model.specs.Lists.{In, any_of, all_of, those, member}
use Rattle.model.specs.Policy.{Element, Assignment, Association, Prohibition, Process, Policy, user, user_attribute, class, by_process, by_user, is_attribute_kind, allowed, kind_of, is_there, user_of, is_process, with_assignments}
use Rattle.model.specs.Sound.{listed, assignment_pairs, association_pairs, subject_there, subject_of_kind, prohibition_pairs, process_pairs, assigned_or_class}
use Rattle.model.specs.Command.{prohibition_names_element, in_use}
use Rattle.model.proofs.Truth.{clash, and_cut, and_join, or_cut, or_fails, or_left, or_right, any_none, all_in, all_of_lem, those_in, those_pass, in_member}
use Rattle.model.proofs.Chains.{allowed_there}
use Rattle.model.proofs.Commands.Parts.{Rest}

module _ (p : Policy) where
  -- what an association names
  pub association_cut : (a : Association) → association_pairs p a ≡ true
      → (eqb (kind_of p a.attribute) user_attribute ≡ true) × (is_attribute_kind (kind_of p a.target) ≡ true)
  unfolding association_pairs
  association_cut a e = and_cut (eqb (kind_of p a.attribute) user_attribute) (is_attribute_kind (kind_of p a.target)) e

  -- what a prohibition names
  pub prohibition_cut : (b : Prohibition) → prohibition_pairs p b ≡ true
      → (subject_there p b ≡ true) × (subject_of_kind p b ≡ true) × (all_of (λ x. is_attribute_kind (kind_of p x)) (listed b) ≡ true)
  unfolding prohibition_pairs
  prohibition_cut b e =
      let c = and_cut (subject_there p b && subject_of_kind p b) (all_of (λ x. is_attribute_kind (kind_of p x)) (listed b)) e in
      let d = and_cut (subject_there p b) (subject_of_kind p b) c.0 in
      (d.0, d.1, c.1)

module _ (p q : Policy) where
  -- an assignment is between the same kinds where the kinds of its two elements stay
  pub keep_assignment : (a : Assignment) → kind_of q a.child ≡ kind_of p a.child → kind_of q a.container ≡ kind_of p a.container
      → assignment_pairs p a ≡ true → assignment_pairs q a ≡ true
  unfolding assignment_pairs
  keep_assignment a c d e = rw (c, d) e

  -- so is an association
  pub keep_association : (a : Association) → kind_of q a.attribute ≡ kind_of p a.attribute → kind_of q a.target ≡ kind_of p a.target
      → association_pairs p a ≡ true → association_pairs q a ≡ true
  unfolding association_pairs
  keep_association a c d e = rw (c, d) e

  -- a process is of a user where its user's kind stays
  pub keep_process : (r : Process) → kind_of q r.owner ≡ kind_of p r.owner → process_pairs p r ≡ true → process_pairs q r ≡ true
  unfolding process_pairs
  keep_process r c e = rw c e

  -- a prohibition names what is there where its subject stays and the kinds of the listed elements stay
  pub keep_prohibition : (b : Prohibition) → (eqb b.sort by_process ≡ false → kind_of q b.subject ≡ kind_of p b.subject)
      → (eqb b.sort by_process ≡ true → user_of q b.subject ≡ user_of p b.subject) → ((y : ℕ) → In y (listed b) → kind_of q y ≡ kind_of p y)
      → prohibition_pairs p b ≡ true → prohibition_pairs q b ≡ true
  unfolding prohibition_pairs subject_there subject_of_kind is_there is_process
  keep_prohibition b kind owner kinds e =
      let c = and_cut (subject_there p b && subject_of_kind p b) (all_of (λ x. is_attribute_kind (kind_of p x)) (listed b)) e in
      and_join (subject_there q b && subject_of_kind q b) (all_of (λ x. is_attribute_kind (kind_of q x)) (listed b))
      (go (eqb b.sort by_process) refl c.0)
      (all_of_lem (λ x. is_attribute_kind (kind_of q x)) (listed b) (λ y i. rw (kinds y i) (all_in (λ x. is_attribute_kind (kind_of p x)) c.1 i)))
    where
      go : (t : Bool) → eqb b.sort by_process ≡ t
          → (cond t (is_process p b.subject) (is_there p b.subject) && cond t true (eqb (kind_of p b.subject) (cond (eqb b.sort by_user) user user_attribute))) ≡ true
          → (cond t (is_process q b.subject) (is_there q b.subject) && cond t true (eqb (kind_of q b.subject) (cond (eqb b.sort by_user) user user_attribute))) ≡ true
      go true s h = rw (owner s) h
      go false s h = rw (kind s) h

  -- an element is assigned or a class where its own assignments do not all go
  pub keep_assigned : (e : Element)
      → (any_of (λ a. eqb a.child e.id) p.assignments ≡ true → any_of (λ a. eqb a.child e.id) q.assignments ≡ true)
      → assigned_or_class p e ≡ true → assigned_or_class q e ≡ true
  unfolding assigned_or_class
  keep_assigned e k h = go (or_cut (eqb e.kind class) (any_of (λ a. eqb a.child e.id) p.assignments) h)
    where
      go : (eqb e.kind class ≡ true) ⊎ (any_of (λ a. eqb a.child e.id) p.assignments ≡ true)
          → (eqb e.kind class || any_of (λ a. eqb a.child e.id) q.assignments) ≡ true
      go (inl c) = or_left (eqb e.kind class) (any_of (λ a. eqb a.child e.id) q.assignments) c
      go (inr s) = or_right (eqb e.kind class) (any_of (λ a. eqb a.child e.id) q.assignments) (k s)

-- a prohibition neither has x for its subject, other than as a process, nor lists it
pub record Spared (x : ℕ) (b : Prohibition) : Type 0 where
  pub subject : eqb b.sort by_process ≡ false → x ≡ b.subject → ⊥
  pub lists : (y : ℕ) → In y (listed b) → x ≡ y → ⊥

-- no record of the policy names the element x
pub record Unnamed (p : Policy) (x : ℕ) : Type 0 where
  pub child : (a : Assignment) → In a p.assignments → x ≡ a.child → ⊥
  pub container : (a : Assignment) → In a p.assignments → x ≡ a.container → ⊥
  pub attribute : (a : Association) → In a p.associations → x ≡ a.attribute → ⊥
  pub target : (a : Association) → In a p.associations → x ≡ a.target → ⊥
  pub prohibition : (b : Prohibition) → In b p.prohibitions → Spared x b
  pub owner : (r : Process) → In r p.processes → x ≡ r.owner → ⊥

-- no child is of kind 0, that of an element which is not there
pub child_there : (j k : ℕ) → allowed j k ≡ true → j ≡ 0 → ⊥
unfolding allowed
child_there j k e z = clash (rw z at e) refl

module _ (p : Policy) (x : ℕ) where
  -- what is asked of the kind of y and fails of kind 0 tells y from an element that is not there
  pub other_than_absent : (f : ℕ → Bool) → (f 0 ≡ true → ⊥) → kind_of p x ≡ 0 → (y : ℕ) → f (kind_of p y) ≡ true → x ≡ y → ⊥
  other_than_absent f d z y e q =
      let k : kind_of p y ≡ 0 = ap (kind_of p) (sym q) ∙ z in
      d (rw k at e)

  -- a sound policy names no element that is not there
  pub absent_unnamed : Rest p → kind_of p x ≡ 0 → Unnamed p x
  unfolding assignment_pairs subject_there process_pairs is_there is_attribute_kind
  absent_unnamed r z = record {
    child = λ a i. absent (λ k. allowed k (kind_of p a.container)) (λ e. child_there 0 (kind_of p a.container) e refl) a.child (r.assignments.named a i);
    container = λ a i. absent (allowed (kind_of p a.child)) (λ e. allowed_there (kind_of p a.child) 0 e refl) a.container (r.assignments.named a i);
    attribute = λ a i. absent (λ k. eqb k user_attribute) (λ e. clash e refl) a.attribute (association_cut p a (r.associations.named a i)).0;
    target = λ a i. absent is_attribute_kind (λ e. clash e refl) a.target (association_cut p a (r.associations.named a i)).1;
    prohibition = λ b i. record {
      subject = λ s. absent (λ k. not (eqb k 0)) (λ e. clash e refl) b.subject (rw s at (prohibition_cut p b (r.prohibitions.named b i)).0);
      lists = λ y j. absent is_attribute_kind (λ e. clash e refl) y (all_in (λ w. is_attribute_kind (kind_of p w)) (prohibition_cut p b (r.prohibitions.named b i)).2 j);
    };
    owner = λ q i. absent (λ k. eqb k user) (λ e. clash e refl) q.owner (r.processes.named q i);
  }
    where
      absent : (f : ℕ → Bool) → (f 0 ≡ true → ⊥) → (y : ℕ) → f (kind_of p y) ≡ true → x ≡ y → ⊥
      absent f d = other_than_absent f d z

-- a prohibition that does not name x spares it
pub spared : (x : ℕ) (b : Prohibition) → prohibition_names_element x b ≡ false → Spared x b
unfolding prohibition_names_element
spared x b e = record {
  subject = λ s q. eqb-false b.subject x (rw s at neither.0) (sym q);
  lists = λ y i q. clash (in_member i) (rw q at neither.1);
}
  where
    neither : ((not (eqb b.sort by_process) && eqb b.subject x) ≡ false) × (member x (listed b) ≡ false)
    neither = or_fails (not (eqb b.sort by_process) && eqb b.subject x) (member x (listed b)) e

module _ (p : Policy) (x : ℕ) where
  -- the assignments but those of x
  abbrev pub not_of : List Assignment
  not_of = those (λ a. not (eqb x a.child)) p.assignments

  -- an element that is not in use is named by its own assignments alone
  pub unused_unnamed : in_use p x ≡ false → Unnamed (with_assignments p not_of) x
  unfolding in_use
  unused_unnamed e =
      let assigning : List Assignment → Bool = any_of (λ a. eqb a.container x) in
      let associating : List Association → Bool = any_of (λ a. eqb a.attribute x || eqb a.target x) in
      let prohibiting : List Prohibition → Bool = any_of (prohibition_names_element x) in
      let owning : List Process → Bool = any_of (λ r. eqb r.owner x) in
      let e₃ = or_fails (assigning p.assignments || associating p.associations || prohibiting p.prohibitions) (owning p.processes) e in
      let e₂ = or_fails (assigning p.assignments || associating p.associations) (prohibiting p.prohibitions) e₃.0 in
      let e₁ = or_fails (assigning p.assignments) (associating p.associations) e₂.0 in
      record {
        child = λ a i. eqb-false x a.child (not-true (eqb x a.child) (those_pass (λ b. not (eqb x b.child)) p.assignments i));
        container = λ a i q. eqb-false a.container x (any_none (λ b. eqb b.container x) e₁.0 (those_in (λ b. not (eqb x b.child)) p.assignments i)) (sym q);
        attribute = λ a i q. eqb-false a.attribute x (ends a (any_none (λ b. eqb b.attribute x || eqb b.target x) e₁.1 i)).0 (sym q);
        target = λ a i q. eqb-false a.target x (ends a (any_none (λ b. eqb b.attribute x || eqb b.target x) e₁.1 i)).1 (sym q);
        prohibition = λ b i. spared x b (any_none (prohibition_names_element x) e₂.1 i);
        owner = λ r i q. eqb-false r.owner x (any_none (λ s. eqb s.owner x) e₃.1 i) (sym q);
      }
    where
      ends : (a : Association) → (eqb a.attribute x || eqb a.target x) ≡ false → (eqb a.attribute x ≡ false) × (eqb a.target x ≡ false)
      ends a h = or_fails (eqb a.attribute x) (eqb a.target x) h
