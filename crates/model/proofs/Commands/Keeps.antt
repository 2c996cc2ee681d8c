-- An accepted command keeps a sound policy sound.
-- Assumes nothing.
use mathlib.Core.Path.{◌≡◌, refl, sym, ap, ◌∙◌}
use mathlib.Core.Bool.{Bool, true, false, not, ◌&&◌, ◌||◌, and-true}
use mathlib.Core.List.{List, [], ◌∷◌}
use Prim.Native.Nat.{ℕ}
use native.Mathlib.Omega.{arith}
use borrow.Author.Tests.{not-false, eqb-true, eqb-false, eq-eqb, leb-false}
use lib.Dec.{eqb}
use lib.ListN.{length, get_or}
use Rattle.model.specs.Lists.{In, any_of, all_of, those, less_first, same, put}
use Rattle.model.specs.Policy.{Element, Assignment, Association, Prohibition, Process, Policy, user, class, by_process, is_element_id, is_process_id, is_kind, is_sort, is_form, is_attribute_kind, allowed, element_key, assignment_fields, association_fields, prohibition_fields, process_key, with_elements, with_assignments, kind_of, is_there, owner_in, user_of, is_process, is_assigned, has_association, has_prohibition}
use Rattle.model.specs.Contain.{Within, itself, above, contained}
use Rattle.model.specs.Sound.{most_assignments, most_associations, most_prohibitions, subject_in_range, listed, lists_fit, element_fits, assignment_fits, association_fits, prohibition_fits, process_fits, assignment_pairs, association_pairs, subject_there, subject_of_kind, prohibition_pairs, process_pairs, assigned_or_class, Sound}
use Rattle.model.specs.Command.{Command, create_class, create_element, assign, deassign, delete_element, create_association, delete_association, create_prohibition, delete_prohibition, start_process, end_process, fits, bad_prohibition, absent_in, wrong_kind_in, ill_formed, only_one, process_in_use, command_lines, command_refusal, after}
use Rattle.model.proofs.Truth.{clash, and_right, and_join, or_fails, or_right, Tested, passes, fails, tested, any_in, any_found, any_none, in_those, in_less}
use Rattle.model.proofs.Contained.{within_when}
use Rattle.model.proofs.Order.{other_same}
use Rattle.model.proofs.Groups.{put_itself, put_any, put_length, rising_put, less_length, less_fails, some_those, those_some, less_those}
use Rattle.model.proofs.Commands.Ids.{kinds, owners, put_others, put_read, less_others, one_id, new_id}
use Rattle.model.proofs.Commands.Lines.{line_fails, absent, both_pass, right_set}
use Rattle.model.proofs.Commands.Parts.{Group, group_put, group_less, group_named, Parts, parts, whole}
use Rattle.model.proofs.Commands.Names.{prohibition_cut, keep_assigned, other_than_absent, absent_unnamed, not_of, unused_unnamed}
use Rattle.model.proofs.Commands.Changes.{one_element_more, one_element_less, one_assignment_more, one_assignment_less, some_assignments, other_associations, other_prohibitions, other_processes}

-- two fields are the same
pub pair_same : (x y : ℕ) (b : Assignment) → same (x ∷ y ∷ []) (assignment_fields b) ≡ (eqb x b.child && eqb y b.container)
unfolding same
pair_same x y b = ap (λ t. eqb x b.child && t) (and-true (eqb y b.container))

-- where nothing is assigned to z, only z is within z
pub end_unreached : {l : List Assignment} {y z : ℕ} → ((a : Assignment) → In a l → z ≡ a.container → ⊥) → Within l y z → z ≡ y
end_unreached free itself = refl
end_unreached free (above {x = x} {y = y} a w) = absurd (free (record { child = x; container = y }) a (end_unreached free w))

-- the assignment of x to y
abbrev pub is_pair : (x y : ℕ) → Assignment → Bool
is_pair x y a = eqb x a.child && eqb y a.container

-- z is still assigned when the assignment of x to y goes, which is not x's only one
pub still_assigned : (x y : ℕ) (l : List Assignment) (z : ℕ) → eqb (length (those (λ a. eqb a.child x) l)) 1 ≡ false
    → any_of (λ a. eqb a.child z) l ≡ true → any_of (λ a. eqb a.child z) (less_first (is_pair x y) l) ≡ true
still_assigned x y l z more e = go (tested (eqb x z))
  where
    go : Tested (eqb x z) → any_of (λ a. eqb a.child z) (less_first (is_pair x y) l) ≡ true
    go (passes h) =
        let q : z ≡ x = sym (eqb-true x z h) in
        let d = eqb-false (length (those (λ a. eqb a.child x) l)) 1 more in
        let one = some_those (λ a. eqb a.child x) l (rw q at e) in
        let less = less_those (λ a. eqb a.child x) (is_pair x y) l in
        rw q (those_some (λ a. eqb a.child x) (less_first (is_pair x y) l) (omega arith))
    go (fails h) =
        let f = any_found (λ a. eqb a.child z) l e in
        let c : f.it.child ≡ z = eqb-true f.it.child z f.is in
        any_in (λ a. eqb a.child z) (in_less (is_pair x y) f.there (rw (c, h))) f.is

-- z, which is not x, is still assigned when the assignments of x go
pub others_assigned : (x : ℕ) (l : List Assignment) (z : ℕ) → eqb x z ≡ false
    → any_of (λ a. eqb a.child z) l ≡ true → any_of (λ a. eqb a.child z) (those (λ a. not (eqb x a.child)) l) ≡ true
others_assigned x l z d e =
    let f = any_found (λ a. eqb a.child z) l e in
    let c : f.it.child ≡ z = eqb-true f.it.child z f.is in
    any_in (λ a. eqb a.child z) (in_those (λ a. not (eqb x a.child)) f.there (rw (c, d))) f.is

module _ (p : Policy) (s : Parts p) where
  -- each element's kind is one
  has_kind : (e : Element) → In e p.elements → e.kind ≡ 0 → ⊥
  unfolding element_fits is_kind
  has_kind e i z = clash (rw z at (and_right (is_element_id e.id) (is_kind e.kind) (s.elements.fields e i))) refl

  -- an element that is not there is new among the elements
  new_element : (n : Element) → kind_of p n.id ≡ 0 → (e : Element) → In e p.elements → same (element_key n) (element_key e) ≡ false
  unfolding kind_of
  new_element n z = new_id kinds n p.elements s.elements.order has_kind z

  -- with one assignment more, elements are assigned that were
  more_assigned : (n : Assignment) {l : List Element} → Group element_key element_fits (assigned_or_class p) l
      → Group element_key element_fits (assigned_or_class (with_assignments p (put assignment_fields n p.assignments))) l
  more_assigned n g =
      let q = with_assignments p (put assignment_fields n p.assignments) in
      group_named g (assigned_or_class q)
      (λ e i. keep_assigned p q e
      (λ h. put_any assignment_fields (λ a. eqb a.child e.id) n p.assignments
      ∙ or_right (eqb n.child e.id) (any_of (λ a. eqb a.child e.id) p.assignments) h))

  -- Create class: an element more, which needs no assignment.
  after_create_class : (x : ℕ) → command_refusal p (create_class x) ≡ 0 → Parts (after p (create_class x))
  unfolding command_lines after element_fits assigned_or_class is_kind
  after_create_class x e =
      let line = line_fails p (create_class x) e in
      let new : Element = record { id = x; kind = class } in
      let id : is_element_id x ≡ true = not-false (is_element_id x) (line 2) in
      let z : kind_of p x ≡ 0 = absent p x (line 3) in
      record {
        elements = group_put s.elements new (and_join (is_element_id x) true id refl) refl (new_element new z);
        rest = one_element_more p s.rest new z;
      }

  -- Create element: an element more and its first assignment.
  after_create_element : (x n y : ℕ) → command_refusal p (create_element x n y) ≡ 0 → Parts (after p (create_element x n y))
  unfolding command_lines after element_fits assignment_fits assignment_pairs kind_of is_there assigned_or_class
  after_create_element x n y e =
      let line = line_fails p (create_element x n y) e in
      let new : Element = record { id = x; kind = n } in
      let own : Assignment = record { child = x; container = y } in
      let ranges = or_fails (not (is_element_id x) || not (is_kind n)) (not (is_element_id y)) (line 2) in
      let id_kind = both_pass (is_element_id x) (is_kind n) ranges.0 in
      let z : kind_of p x ≡ 0 = absent p x (or_fails (is_there p x) (is_assigned p x y) (line 3)).0 in
      let other : x ≡ y → ⊥ = other_than_absent p x (λ k. not (eqb k 0)) (λ h. clash h refl) z y (not-false (is_there p y) (line 4)) in
      let pair : allowed n (kind_of p y) ≡ true = not-false (allowed n (kind_of p y)) (or_fails (eqb n class) (not (allowed n (kind_of p y))) (line 5)).1 in
      let free = absent_unnamed p x s.rest z in
      let q = with_elements p (put element_key new p.elements) in
      let order = rising_put element_key new p.elements s.elements.order (new_element new z) in
      record {
        elements = group_put (more_assigned own s.elements) new
            (and_join (is_element_id x) (is_kind n) id_kind.0 id_kind.1)
            (or_right (eqb n class) (any_of (λ a. eqb a.child x) (put assignment_fields own p.assignments))
            (any_in (λ a. eqb a.child x) (put_itself assignment_fields own p.assignments) (eq-eqb x x refl)))
            (new_element new z);
        rest = one_assignment_more q (one_element_more p s.rest new z) own
            (and_join (is_element_id x) (is_element_id y) id_kind.0 (not-false (is_element_id y) ranges.1))
            (rw (put_read kinds new p.elements order, put_others kinds new p.elements y other) pair)
            (λ b i. other_same (assignment_fields own) (assignment_fields b) (λ h. free.child b i (ap (λ l. get_or l 0 0) h)))
            (λ w. other (end_unreached free.container w))
            (leb-false most_assignments (length p.assignments) (line 10));
      }

  -- Assign: an assignment more that closes no cycle.
  after_assign : (x y : ℕ) → command_refusal p (assign x y) ≡ 0 → Parts (after p (assign x y))
  unfolding command_lines after is_assigned assignment_fits assignment_pairs
  after_assign x y e =
      let line = line_fails p (assign x y) e in
      let new : Assignment = record { child = x; container = y } in
      let ids = both_pass (is_element_id x) (is_element_id y) (line 2) in
      let far : contained p y x ≡ false = (or_fails (eqb x y) (contained p y x) (line 7)).1 in
      record {
        elements = more_assigned new s.elements;
        rest = one_assignment_more p s.rest new
            (and_join (is_element_id x) (is_element_id y) ids.0 ids.1)
            (not-false (allowed (kind_of p x) (kind_of p y)) (line 5))
            (λ b i. pair_same x y b ∙ any_none (λ a. eqb x a.child && eqb y a.container) (line 3) i)
            (λ w. clash (within_when p.assignments w) far)
            (leb-false most_assignments (length p.assignments) (line 10));
      }

  -- Deassign: an assignment less, not the child's only one.
  after_deassign : (x y : ℕ) → command_refusal p (deassign x y) ≡ 0 → Parts (after p (deassign x y))
  unfolding command_lines after only_one
  after_deassign x y e =
      let q = with_assignments p (less_first (is_pair x y) p.assignments) in
      record {
        elements = group_named s.elements (assigned_or_class q)
            (λ f i. keep_assigned p q f (still_assigned x y p.assignments f.id (line_fails p (deassign x y) e 8)));
        rest = one_assignment_less p s.rest (is_pair x y);
      }

  -- Delete element: an element less that nothing names but its own assignments, and these.
  after_delete_element : (x : ℕ) → command_refusal p (delete_element x) ≡ 0 → Parts (after p (delete_element x))
  unfolding command_lines after assigned_or_class
  after_delete_element x e =
      let q = with_assignments p (not_of p x) in
      let less : Element → Bool = λ f. eqb x f.id in
      record {
        elements = group_named (group_less s.elements less) (assigned_or_class q)
            (λ f i. keep_assigned p q f (others_assigned x p.assignments f.id (less_fails element_key less p.elements (one_id kinds x) s.elements.order i)));
        rest = one_element_less q (some_assignments p s.rest (λ a. not (eqb x a.child))) x (unused_unnamed p x (line_fails p (delete_element x) e 9));
      }

  -- Create association.
  after_create_association : (a : Association) → fits (create_association a) ≡ true → command_refusal p (create_association a) ≡ 0 → Parts (after p (create_association a))
  unfolding command_lines after fits has_association association_fits assigned_or_class
  after_create_association a f e =
      let line = line_fails p (create_association a) e in
      let ids = both_pass (is_element_id a.attribute) (is_element_id a.target) (line 2) in
      let full = leb-false most_associations (length p.associations) (line 10) in
      let more = put_length association_fields a p.associations in
      record {
        elements = s.elements;
        rest = other_associations p s.rest (put association_fields a p.associations)
            (group_put s.rest.associations a (rw (ids.0, ids.1) (right_set a.rights f (line 6))) (not-false (association_pairs p a) (line 5))
            (λ b i. any_none (λ c. same (association_fields a) (association_fields c)) (line 3) i))
            (omega arith);
      }

  -- Delete association.
  after_delete_association : (a : Association) → Parts (after p (delete_association a))
  unfolding after assigned_or_class
  after_delete_association a =
      let less : Association → Bool = λ b. same (association_fields a) (association_fields b) in
      let few = s.rest.few_associations in
      let fewer = less_length less p.associations in
      record {
        elements = s.elements;
        rest = other_associations p s.rest (less_first less p.associations) (group_less s.rest.associations less) (omega arith);
      }

  -- Create prohibition.
  after_create_prohibition : (b : Prohibition) → fits (create_prohibition b) ≡ true → command_refusal p (create_prohibition b) ≡ 0 → Parts (after p (create_prohibition b))
  unfolding command_lines after fits has_prohibition bad_prohibition absent_in wrong_kind_in ill_formed prohibition_fits prohibition_pairs assigned_or_class
  after_create_prohibition b f e =
      let line = line_fails p (create_prohibition b) e in
      let last = or_fails (not (is_sort b.sort) || not (is_form b.form) || not (subject_in_range b)) (not (all_of is_element_id (listed b))) (line 2) in
      let third = or_fails (not (is_sort b.sort) || not (is_form b.form)) (not (subject_in_range b)) last.0 in
      let two = both_pass (is_sort b.sort) (is_form b.form) third.0 in
      let subject : subject_in_range b ≡ true = not-false (subject_in_range b) third.1 in
      let ids : all_of is_element_id (listed b) ≡ true = not-false (all_of is_element_id (listed b)) last.1 in
      let there = both_pass (subject_there p b) (all_of (is_there p) (listed b)) (line 4) in
      let kind = both_pass (subject_of_kind p b) (all_of (λ x. is_attribute_kind (kind_of p x)) (listed b)) (line 5) in
      let form = or_fails (eqb b.rights 0) (not (lists_fit b)) (line 6) in
      let full = leb-false most_prohibitions (length p.prohibitions) (line 10) in
      let more = put_length prohibition_fields b p.prohibitions in
      record {
        elements = s.elements;
        rest = other_prohibitions p s.rest (put prohibition_fields b p.prohibitions)
            (group_put s.rest.prohibitions b
            (rw (two.0, subject, two.1, right_set b.rights f form.0, ids) (not-false (lists_fit b) form.1))
            (rw (there.0, kind.0) kind.1)
            (λ c i. any_none (λ d. same (prohibition_fields b) (prohibition_fields d)) (line 3) i))
            (omega arith);
      }

  -- Delete prohibition.
  after_delete_prohibition : (b : Prohibition) → Parts (after p (delete_prohibition b))
  unfolding after assigned_or_class
  after_delete_prohibition b =
      let less : Prohibition → Bool = λ c. same (prohibition_fields b) (prohibition_fields c) in
      let few = s.rest.few_prohibitions in
      let fewer = less_length less p.prohibitions in
      record {
        elements = s.elements;
        rest = other_prohibitions p s.rest (less_first less p.prohibitions) (group_less s.rest.prohibitions less) (omega arith);
      }

  -- each process's user is one
  has_owner : (q : Process) → In q p.processes → q.owner ≡ 0 → ⊥
  unfolding process_fits is_element_id
  has_owner q i z = clash (rw z at (and_right (is_process_id q.id) (is_element_id q.owner) (s.rest.processes.fields q i))) refl

  -- Start process: a process more, which no prohibition could name before.
  after_start_process : (i u : ℕ) → command_refusal p (start_process i u) ≡ 0 → Parts (after p (start_process i u))
  unfolding command_lines after process_fits process_pairs subject_there is_process user_of assigned_or_class
  after_start_process i u e =
      let line = line_fails p (start_process i u) e in
      let new : Process = record { id = i; owner = u } in
      let ids = both_pass (is_process_id i) (is_element_id u) (line 2) in
      let z : owner_in p.processes i ≡ 0 = eqb-true (owner_in p.processes i) 0 (not-false (eqb (owner_in p.processes i) 0) (line 3)) in
      record {
        elements = s.elements;
        rest = other_processes p s.rest (put process_key new p.processes) i
            (group_put s.rest.processes new (and_join (is_process_id i) (is_element_id u) ids.0 ids.1) (not-false (eqb (kind_of p u) user) (line 5))
            (new_id owners new p.processes s.rest.processes.order has_owner z))
            (λ b j h q. clash (rw (h, ← q) at (prohibition_cut p b (s.rest.prohibitions.named b j)).0) (line 3))
            (put_others owners new p.processes);
      }

  -- End process: a process less that no prohibition names.
  after_end_process : (i : ℕ) → command_refusal p (end_process i) ≡ 0 → Parts (after p (end_process i))
  unfolding command_lines after process_in_use assigned_or_class
  after_end_process i e =
      let less : Process → Bool = λ q. eqb i q.id in
      let free : any_of (λ b. eqb b.sort by_process && eqb b.subject i) p.prohibitions ≡ false = line_fails p (end_process i) e 9 in
      record {
        elements = s.elements;
        rest = other_processes p s.rest (less_first less p.processes) i
            (group_less s.rest.processes less)
            (λ b j h q. eqb-false b.subject i (rw h at (any_none (λ c. eqb c.sort by_process && eqb c.subject i) free j)) (sym q))
            (less_others owners i p.processes);
      }

  -- each command
  parts_after : (c : Command) → fits c ≡ true → command_refusal p c ≡ 0 → Parts (after p c)
  parts_after (create_class x) f e = after_create_class x e
  parts_after (create_element x k y) f e = after_create_element x k y e
  parts_after (assign x y) f e = after_assign x y e
  parts_after (deassign x y) f e = after_deassign x y e
  parts_after (delete_element x) f e = after_delete_element x e
  parts_after (create_association a) f e = after_create_association a f e
  parts_after (delete_association a) f e = after_delete_association a
  parts_after (create_prohibition b) f e = after_create_prohibition b f e
  parts_after (delete_prohibition b) f e = after_delete_prohibition b
  parts_after (start_process i u) f e = after_start_process i u e
  parts_after (end_process i) f e = after_end_process i e

-- An accepted command keeps a sound policy sound.
pub after_sound : (p : Policy) → Sound p → (c : Command) → fits c ≡ true → command_refusal p c ≡ 0 → Sound (after p c)
after_sound p s c f e = whole (after p c) (parts_after p (parts p s) c f e)
