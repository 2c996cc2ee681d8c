-- A sound policy group by group: each group with its records' fields, its order, and what its records name.
-- Assumes nothing.
use mathlib.Core.Path.{◌≡◌, refl}
use mathlib.Core.Bool.{Bool, true, false, ◌&&◌}
use mathlib.Core.List.{List}
use mathlib.Core.Logic.{◌⊎◌, inl, inr}
use Prim.Native.Nat.{ℕ, ◌≤◌}
use borrow.Author.Tests.{leb-true, le-leb}
use lib.ListN.{length}
use Rattle.model.specs.Lists.{In, all_of, those, less_first, same, rising, put}
use Rattle.model.specs.Policy.{Policy, element_key, assignment_fields, association_fields, prohibition_fields, process_key}
use Rattle.model.specs.Sound.{most_assignments, most_associations, most_prohibitions, within_limits, element_fits, assignment_fits, association_fits, prohibition_fits, process_fits, fields_fit, groups_rise, assignment_pairs, association_pairs, prohibition_pairs, process_pairs, pairs_fit, assigned_or_class, all_assigned, Sound}
use Rattle.model.proofs.Truth.{and_cut, all_in, all_of_lem, those_in, less_in}
use Rattle.model.proofs.Chains.{Acyclic, acyclic_says, acyclic_when}
use Rattle.model.proofs.Groups.{put_in, rising_put, rising_less, rising_those}

-- one group: the fields of each record are right, the group strictly rises, and what each record names is there
pub record Group {A : Type 0} (key : A → List ℕ) (right names : A → Bool) (l : List A) : Type 0 where
  pub fields : (a : A) → In a l → right a ≡ true
  pub order : rising key l ≡ true
  pub named : (a : A) → In a l → names a ≡ true

module _ {A : Type 0} {key : A → List ℕ} {right names : A → Bool} {l : List A} (g : Group key right names l) where
  -- a group with one put that is right and has another key than each
  pub group_put : (b : A) → right b ≡ true → names b ≡ true → ((a : A) → In a l → same (key b) (key a) ≡ false) → Group key right names (put key b l)
  group_put b r n d = record {
    fields = λ a i. either right r g.fields a (put_in key b l i);
    order = rising_put key b l g.order d;
    named = λ a i. either names n g.named a (put_in key b l i);
  }
    where
      either : (f : A → Bool) → f b ≡ true → ((a : A) → In a l → f a ≡ true) → (a : A) → (a ≡ b) ⊎ In a l → f a ≡ true
      either f e h a (inl q) = rw q e
      either f e h a (inr i) = h a i

  -- a group without one of it
  pub group_less : (f : A → Bool) → Group key right names (less_first f l)
  group_less f = record { fields = λ a i. g.fields a (less_in f l i); order = rising_less key f l g.order; named = λ a i. g.named a (less_in f l i) }

  -- those of a group
  pub group_those : (f : A → Bool) → Group key right names (those f l)
  group_those f = record { fields = λ a i. g.fields a (those_in f l i); order = rising_those key f l g.order; named = λ a i. g.named a (those_in f l i) }

  -- the same group, what it names judged anew
  pub group_named : (names' : A → Bool) → ((a : A) → In a l → names a ≡ true → names' a ≡ true) → Group key right names' l
  group_named names' k = record { fields = g.fields; order = g.order; named = λ a i. k a i (g.named a i) }

-- all that a sound policy says of what is not an element
pub record Rest (p : Policy) : Type 0 where
  pub assignments : Group assignment_fields assignment_fits (assignment_pairs p) p.assignments
  pub associations : Group association_fields association_fits (association_pairs p) p.associations
  pub prohibitions : Group prohibition_fields prohibition_fits (prohibition_pairs p) p.prohibitions
  pub processes : Group process_key process_fits (process_pairs p) p.processes
  pub few_assignments : length p.assignments ≤ most_assignments
  pub few_associations : length p.associations ≤ most_associations
  pub few_prohibitions : length p.prohibitions ≤ most_prohibitions
  pub acyclic : Acyclic p.assignments

-- and of the elements
pub record Parts (p : Policy) : Type 0 where
  pub elements : Group element_key element_fits (assigned_or_class p) p.elements
  pub rest : Rest p

module _ {A : Type 0} (key : A → List ℕ) (right names : A → Bool) (l : List A) where
  -- a group from the tests of a sound policy
  pub group : all_of right l ≡ true → rising key l ≡ true → all_of names l ≡ true → Group key right names l
  group f o n = record { fields = λ a i. all_in right f i; order = o; named = λ a i. all_in names n i }

-- five tests that all pass; fewer, with `true` for those before
five : (a b c d e : Bool) → (a && b && c && d && e) ≡ true → (a ≡ true) × (b ≡ true) × (c ≡ true) × (d ≡ true) × (e ≡ true)
five a b c d e q =
    let q₄ = and_cut (a && b && c && d) e q in
    let q₃ = and_cut (a && b && c) d q₄.0 in
    let q₂ = and_cut (a && b) c q₃.0 in
    let q₁ = and_cut a b q₂.0 in
    (q₁.0, q₁.1, q₂.1, q₃.1, q₄.1)

join_five : (a b c d e : Bool) → a ≡ true → b ≡ true → c ≡ true → d ≡ true → e ≡ true → (a && b && c && d && e) ≡ true
join_five a b c d e h₁ h₂ h₃ h₄ h₅ = rw (h₁, h₂, h₃, h₄, h₅)

module _ (p : Policy) where
  -- a sound policy, group by group
  pub parts : Sound p → Parts p
  unfolding within_limits fields_fit groups_rise pairs_fit all_assigned
  parts s =
      let l = five true true _ _ _ s.limits in
      let f = five _ _ _ _ _ s.fields in
      let o = five _ _ _ _ _ s.order in
      let n = five true _ _ _ _ s.names in
      record {
        elements = group element_key element_fits (assigned_or_class p) p.elements f.0 o.0 s.assigned;
        rest = record {
          assignments = group assignment_fields assignment_fits (assignment_pairs p) p.assignments f.1 o.1 n.1;
          associations = group association_fields association_fits (association_pairs p) p.associations f.2 o.2 n.2;
          prohibitions = group prohibition_fields prohibition_fits (prohibition_pairs p) p.prohibitions f.3 o.3 n.3;
          processes = group process_key process_fits (process_pairs p) p.processes f.4 o.4 n.4;
          few_assignments = leb-true (length p.assignments) most_assignments l.2;
          few_associations = leb-true (length p.associations) most_associations l.3;
          few_prohibitions = leb-true (length p.prohibitions) most_prohibitions l.4;
          acyclic = acyclic_says p s.acyclic;
        };
      }

  -- and back
  pub whole : Parts p → Sound p
  unfolding within_limits fields_fit groups_rise pairs_fit all_assigned
  whole s =
      let r = s.rest in
      record {
        limits =
            join_five true true _ _ _ refl refl
            (le-leb (length p.assignments) most_assignments r.few_assignments)
            (le-leb (length p.associations) most_associations r.few_associations)
            (le-leb (length p.prohibitions) most_prohibitions r.few_prohibitions);
        fields =
            join_five _ _ _ _ _
            (all_of_lem element_fits p.elements s.elements.fields)
            (all_of_lem assignment_fits p.assignments r.assignments.fields)
            (all_of_lem association_fits p.associations r.associations.fields)
            (all_of_lem prohibition_fits p.prohibitions r.prohibitions.fields)
            (all_of_lem process_fits p.processes r.processes.fields);
        order =
            join_five _ _ _ _ _ s.elements.order r.assignments.order r.associations.order r.prohibitions.order r.processes.order;
        names =
            join_five true _ _ _ _ refl
            (all_of_lem (assignment_pairs p) p.assignments r.assignments.named)
            (all_of_lem (association_pairs p) p.associations r.associations.named)
            (all_of_lem (prohibition_pairs p) p.prohibitions r.prohibitions.named)
            (all_of_lem (process_pairs p) p.processes r.processes.named);
        acyclic = acyclic_when p r.acyclic;
        assigned = all_of_lem (assigned_or_class p) p.elements s.elements.named;
      }
