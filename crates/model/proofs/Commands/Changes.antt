-- One change of a sound policy at a time: a group with a record more or less, and all that is not an element stays as it must be.
-- Assumes nothing.
use mathlib.Core.Path.{◌≡◌, refl}
use mathlib.Core.Bool.{Bool, true, false}
use mathlib.Core.List.{List}
use Prim.Native.Nat.{ℕ, ◌≤◌, ◌<◌}
use native.Mathlib.Omega.{arith}
use lib.Dec.{eqb}
use lib.ListN.{length}
use Rattle.model.specs.Lists.{In, those, less_first, same, put}
use Rattle.model.specs.Policy.{Element, Assignment, Association, Prohibition, Process, Policy, by_process, element_key, assignment_fields, association_fields, prohibition_fields, process_key, with_elements, with_assignments, with_associations, with_prohibitions, with_processes, kind_in, kind_of, is_there, owner_in, user_of, is_process}
use Rattle.model.specs.Contain.{Within}
use Rattle.model.specs.Sound.{most_assignments, most_associations, most_prohibitions, assignment_fits, association_fits, prohibition_fits, process_fits, assignment_pairs, association_pairs, subject_there, subject_of_kind, prohibition_pairs, process_pairs}
use Rattle.model.proofs.Truth.{those_in, less_in}
use Rattle.model.proofs.Chains.{Acyclic, fewer_acyclic, more_acyclic}
use Rattle.model.proofs.Groups.{put_in, put_length, less_length, those_length}
use Rattle.model.proofs.Commands.Ids.{kinds, put_others, less_others}
use Rattle.model.proofs.Commands.Parts.{Group, group_put, group_less, group_those, group_named, Rest}
use Rattle.model.proofs.Commands.Names.{keep_assignment, keep_association, keep_process, keep_prohibition, Unnamed, absent_unnamed}

module _ (p : Policy) (r : Rest p) where
  -- other elements, the kinds of all but x as they were, and x not named
  pub other_elements : (l : List Element) (x : ℕ) → Unnamed p x → ((y : ℕ) → (x ≡ y → ⊥) → kind_in l y ≡ kind_in p.elements y) → Rest (with_elements p l)
  unfolding kind_of user_of
  other_elements l x n kept =
      let q = with_elements p l in
      record {
        assignments = group_named r.assignments (assignment_pairs q)
            (λ a i. keep_assignment p q a (kept a.child (n.child a i)) (kept a.container (n.container a i)));
        associations = group_named r.associations (association_pairs q)
            (λ a i. keep_association p q a (kept a.attribute (n.attribute a i)) (kept a.target (n.target a i)));
        prohibitions = group_named r.prohibitions (prohibition_pairs q)
            (λ b i. keep_prohibition p q b (λ s. kept b.subject ((n.prohibition b i).subject s)) (λ s. refl) (λ y j. kept y ((n.prohibition b i).lists y j)));
        processes = group_named r.processes (process_pairs q) (λ s i. keep_process p q s (kept s.owner (n.owner s i)));
        few_assignments = r.few_assignments;
        few_associations = r.few_associations;
        few_prohibitions = r.few_prohibitions;
        acyclic = r.acyclic;
      }

  -- an element more
  pub one_element_more : (e : Element) → kind_of p e.id ≡ 0 → Rest (with_elements p (put element_key e p.elements))
  one_element_more e z = other_elements (put element_key e p.elements) e.id (absent_unnamed p e.id r z) (put_others kinds e p.elements)

  -- an element less
  pub one_element_less : (x : ℕ) → Unnamed p x → Rest (with_elements p (less_first (λ e. eqb x e.id) p.elements))
  one_element_less x n = other_elements (less_first (λ e. eqb x e.id) p.elements) x n (less_others kinds x p.elements)

  -- other assignments
  pub other_assignments : (l : List Assignment) → Group assignment_fields assignment_fits (assignment_pairs p) l → length l ≤ most_assignments → Acyclic l → Rest (with_assignments p l)
  unfolding assignment_pairs association_pairs prohibition_pairs subject_there subject_of_kind process_pairs is_there is_process kind_of user_of
  other_assignments l g few a = record {
    assignments = g;
    associations = r.associations;
    prohibitions = r.prohibitions;
    processes = r.processes;
    few_assignments = few;
    few_associations = r.few_associations;
    few_prohibitions = r.few_prohibitions;
    acyclic = a;
  }

  -- an assignment more, between kinds that may be and with no chain back
  pub one_assignment_more : (a : Assignment) → assignment_fits a ≡ true → assignment_pairs p a ≡ true
      → ((b : Assignment) → In b p.assignments → same (assignment_fields a) (assignment_fields b) ≡ false)
      → (Within p.assignments a.container a.child → ⊥) → length p.assignments < most_assignments
      → Rest (with_assignments p (put assignment_fields a p.assignments))
  one_assignment_more a f n new far few = other_assignments (put assignment_fields a p.assignments)
      (group_put r.assignments a f n new)
      (let e = put_length assignment_fields a p.assignments in omega arith)
      (more_acyclic a (λ b i. put_in assignment_fields a p.assignments i) r.acyclic far)

  -- an assignment less
  pub one_assignment_less : (f : Assignment → Bool) → Rest (with_assignments p (less_first f p.assignments))
  one_assignment_less f = other_assignments (less_first f p.assignments)
      (group_less r.assignments f)
      (let h = less_length f p.assignments in let k = r.few_assignments in omega arith)
      (fewer_acyclic (λ b i. less_in f p.assignments i) r.acyclic)

  -- some of the assignments
  pub some_assignments : (f : Assignment → Bool) → Rest (with_assignments p (those f p.assignments))
  some_assignments f = other_assignments (those f p.assignments)
      (group_those r.assignments f)
      (let h = those_length f p.assignments in let k = r.few_assignments in omega arith)
      (fewer_acyclic (λ b i. those_in f p.assignments i) r.acyclic)

  -- other associations
  pub other_associations : (l : List Association) → Group association_fields association_fits (association_pairs p) l → length l ≤ most_associations → Rest (with_associations p l)
  unfolding assignment_pairs association_pairs prohibition_pairs subject_there subject_of_kind process_pairs is_there is_process kind_of user_of
  other_associations l g few = record {
    assignments = r.assignments;
    associations = g;
    prohibitions = r.prohibitions;
    processes = r.processes;
    few_assignments = r.few_assignments;
    few_associations = few;
    few_prohibitions = r.few_prohibitions;
    acyclic = r.acyclic;
  }

  -- other prohibitions
  pub other_prohibitions : (l : List Prohibition) → Group prohibition_fields prohibition_fits (prohibition_pairs p) l → length l ≤ most_prohibitions → Rest (with_prohibitions p l)
  unfolding assignment_pairs association_pairs prohibition_pairs subject_there subject_of_kind process_pairs is_there is_process kind_of user_of
  other_prohibitions l g few = record {
    assignments = r.assignments;
    associations = r.associations;
    prohibitions = g;
    processes = r.processes;
    few_assignments = r.few_assignments;
    few_associations = r.few_associations;
    few_prohibitions = few;
    acyclic = r.acyclic;
  }

  -- other processes, the users of all but i as they were, and i the subject of no prohibition
  pub other_processes : (l : List Process) (i : ℕ) → Group process_key process_fits (process_pairs p) l
      → ((b : Prohibition) → In b p.prohibitions → eqb b.sort by_process ≡ true → i ≡ b.subject → ⊥)
      → ((j : ℕ) → (i ≡ j → ⊥) → owner_in l j ≡ owner_in p.processes j) → Rest (with_processes p l)
  unfolding assignment_pairs association_pairs process_pairs kind_of user_of
  other_processes l i g free kept =
      let q = with_processes p l in
      record {
        assignments = r.assignments;
        associations = r.associations;
        prohibitions = group_named r.prohibitions (prohibition_pairs q)
            (λ b j. keep_prohibition p q b (λ s. refl) (λ s. kept b.subject (free b j s)) (λ y k. refl));
        processes = g;
        few_assignments = r.few_assignments;
        few_associations = r.few_associations;
        few_prohibitions = r.few_prohibitions;
        acyclic = r.acyclic;
      }
