-- What is known of an accepted command: its numbers are in range, what it adds is new and there is room for it, what it takes out is there.
-- Assumes nothing.
use mathlib.Core.Path.{◌≡◌}
use mathlib.Core.List.{◌++◌}
use mathlib.Core.Bool.{true, false, not, ◌&&◌, ◌||◌}
use Prim.Native.Nat.{ℕ, ◌≤◌, ◌<◌}
use native.Mathlib.Omega.{arith}
use borrow.Author.Tests.{not-false, eqb-true, leb-true, leb-false}
use lib.Dec.{eqb, leb}
use lib.ListN.{length}
use Rattle.model.specs.Lists.{all_of, empty, rising_ids}
use Rattle.model.specs.Policy.{Association, Prohibition, Policy, is_element_id, is_process_id, is_kind, is_sort, is_form, kind_of, is_there, user_of, is_process, is_assigned, has_association, has_prohibition}
use Rattle.model.specs.Sound.{subject_in_range, listed, lists_fit}
use Rattle.model.specs.Refusal.{None, proper}
use Rattle.model.specs.Command.{create_class, create_element, assign, deassign, delete_element, create_association, delete_association, create_prohibition, delete_prohibition, start_process, end_process, bad_prohibition, absent_in, ill_formed, command_lines}
use Rattle.model.proofs.Truth.{and_left, and_right, or_fails}
use Rattle.model.proofs.Image.Ranges.{id_range, process_range, sort_fits, form_fits, subject_fits}
use Rattle.model.proofs.Commands.Lines.{none_line, absent, both_pass}
use Rattle.store.specs.ProhibitionWords.{Storable}

-- an id of an element
pub record Id (x : ℕ) : Type 0 where
  pub low : 1 ≤ x
  pub high : x ≤ 511

-- a number that the lines find to be an id
one_id : (x : ℕ) → not (is_element_id x) ≡ false → Id x
one_id x e = let r = id_range x (not-false (is_element_id x) e) in record { low = r.0; high = r.1 }

-- an id of a process
pub record ProcessId (i : ℕ) : Type 0 where
  pub low : 1 ≤ i
  pub high : i ≤ 255

-- a number that the lines find to be one
one_process : (i : ℕ) → not (is_process_id i) ≡ false → ProcessId i
one_process i e = let r = process_range i (not-false (is_process_id i) e) in record { low = r.0; high = r.1 }

-- a kind is at most 5
kind_low : (k : ℕ) → is_kind k ≡ true → k ≤ 5
unfolding is_kind
kind_low k e = leb-true k 5 (and_right (leb 1 k) (leb k 5) e)

-- a prohibition that is in range and well formed goes into a record's words
storable : (b : Prohibition) → bad_prohibition b ≡ false → ill_formed b ≡ false → Storable b
unfolding bad_prohibition ill_formed lists_fit
storable b bad ill =
    let listed = or_fails (not (is_sort b.sort) || not (is_form b.form) || not (subject_in_range b)) (not (all_of is_element_id (listed b))) bad in
    let subject = or_fails (not (is_sort b.sort) || not (is_form b.form)) (not (subject_in_range b)) listed.0 in
    let two = both_pass (is_sort b.sort) (is_form b.form) subject.0 in
    let few = leb (length b.inclusion) 4 && leb (length b.exclusion) 4 in
    let up = few && rising_ids b.inclusion in
    let upper = up && rising_ids b.exclusion in
    let lists = not-false (lists_fit b) (or_fails (eqb b.rights 0) (not (lists_fit b)) ill).1 in
    let rise = and_left up (rising_ids b.exclusion) (and_left upper (not (empty (b.inclusion ++ b.exclusion))) lists) in
    let short = and_left few (rising_ids b.inclusion) rise in
    record {
      low_sort = omega (arith, sort_fits b.sort two.0);
      low_subject = subject_fits b (not-false (subject_in_range b) subject.1);
      low_form = omega (arith, form_fits b.form two.1);
      few_inclusions = leb-true (length b.inclusion) 4 (and_left (leb (length b.inclusion) 4) (leb (length b.exclusion) 4) short);
      few_exclusions = leb-true (length b.exclusion) 4 (and_right (leb (length b.inclusion) 4) (leb (length b.exclusion) 4) short);
    }

module _ (p : Policy) where
  -- Create class: the id is new.
  pub record NewClass (x : ℕ) : Type 0 where
    pub id : Id x
    pub new : kind_of p x ≡ 0

  -- so it is where no line holds
  pub new_class : {x : ℕ} → None (command_lines proper p (create_class x)) → NewClass x
  unfolding command_lines
  new_class {x} n = record { id = one_id x (none_line n 2); new = absent p x (none_line n 3) }

  -- Create element: the id and the assignment are new, and there is room for the assignment.
  pub record NewElement (x k y : ℕ) : Type 0 where
    pub id : Id x
    pub kind : is_kind k ≡ true
    pub low_kind : k ≤ 5
    pub container : Id y
    pub new : kind_of p x ≡ 0
    pub unassigned : is_assigned p x y ≡ false
    pub room : length p.assignments < 2000

  -- so it is where no line holds
  pub new_element : {x k y : ℕ} → None (command_lines proper p (create_element x k y)) → NewElement x k y
  unfolding command_lines
  new_element {x} {k} {y} n =
      let three = or_fails (not (is_element_id x) || not (is_kind k)) (not (is_element_id y)) (none_line n 2) in
      let two = or_fails (not (is_element_id x)) (not (is_kind k)) three.0 in
      let taken = or_fails (is_there p x) (is_assigned p x y) (none_line n 3) in
      record {
        id = one_id x two.0;
        kind = not-false (is_kind k) two.1;
        low_kind = kind_low k (not-false (is_kind k) two.1);
        container = one_id y three.1;
        new = absent p x taken.0;
        unassigned = taken.1;
        room = leb-false 2000 (length p.assignments) (none_line n 10);
      }

  -- Assign: the assignment is new, and there is room for it.
  pub record NewAssignment (x y : ℕ) : Type 0 where
    pub child : Id x
    pub container : Id y
    pub unassigned : is_assigned p x y ≡ false
    pub room : length p.assignments < 2000

  -- so it is where no line holds
  pub new_assignment : {x y : ℕ} → None (command_lines proper p (assign x y)) → NewAssignment x y
  unfolding command_lines
  new_assignment {x} {y} n =
      let two = or_fails (not (is_element_id x)) (not (is_element_id y)) (none_line n 2) in
      record {
        child = one_id x two.0;
        container = one_id y two.1;
        unassigned = none_line n 3;
        room = leb-false 2000 (length p.assignments) (none_line n 10);
      }

  -- Deassign: the assignment is there.
  pub record OldAssignment (x y : ℕ) : Type 0 where
    pub child : Id x
    pub container : Id y
    pub assigned : is_assigned p x y ≡ true

  -- so it is where no line holds
  pub old_assignment : {x y : ℕ} → None (command_lines proper p (deassign x y)) → OldAssignment x y
  unfolding command_lines
  old_assignment {x} {y} n =
      let two = or_fails (not (is_element_id x)) (not (is_element_id y)) (none_line n 2) in
      record {
        child = one_id x two.0;
        container = one_id y two.1;
        assigned = not-false (is_assigned p x y) (or_fails (not (is_there p x) || not (is_there p y)) (not (is_assigned p x y)) (none_line n 4)).1;
      }

  -- Delete element: the number is an id.
  pub old_element : {x : ℕ} → None (command_lines proper p (delete_element x)) → Id x
  unfolding command_lines
  old_element {x} n = one_id x (none_line n 2)

  -- Create association: there is room for it.
  pub record NewAssociation (a : Association) : Type 0 where
    pub attribute : Id a.attribute
    pub target : Id a.target
    pub room : length p.associations < 1000

  -- so it is where no line holds
  pub new_association : {a : Association} → None (command_lines proper p (create_association a)) → NewAssociation a
  unfolding command_lines
  new_association {a} n =
      let two = or_fails (not (is_element_id a.attribute)) (not (is_element_id a.target)) (none_line n 2) in
      record {
        attribute = one_id a.attribute two.0;
        target = one_id a.target two.1;
        room = leb-false 1000 (length p.associations) (none_line n 10);
      }

  -- Delete association: it is there.
  pub record OldAssociation (a : Association) : Type 0 where
    pub attribute : Id a.attribute
    pub target : Id a.target
    pub there : has_association p a ≡ true

  -- so it is where no line holds
  pub old_association : {a : Association} → None (command_lines proper p (delete_association a)) → OldAssociation a
  unfolding command_lines
  old_association {a} n =
      let two = or_fails (not (is_element_id a.attribute)) (not (is_element_id a.target)) (none_line n 2) in
      record {
        attribute = one_id a.attribute two.0;
        target = one_id a.target two.1;
        there = not-false (has_association p a)
            (or_fails (not (is_there p a.attribute) || not (is_there p a.target)) (not (has_association p a)) (none_line n 4)).1;
      }

  -- Create prohibition: it goes into a record's words, is not there, and there is room for it.
  pub record NewProhibition (b : Prohibition) : Type 0 where
    pub storable : Storable b
    pub new : has_prohibition p b ≡ false
    pub room : length p.prohibitions < 200

  -- so it is where no line holds
  pub new_prohibition : {b : Prohibition} → None (command_lines proper p (create_prohibition b)) → NewProhibition b
  unfolding command_lines
  new_prohibition {b} n = record {
    storable = storable b (none_line n 2) (none_line n 6);
    new = none_line n 3;
    room = leb-false 200 (length p.prohibitions) (none_line n 10);
  }

  -- Delete prohibition: it is there.
  pub record OldProhibition (b : Prohibition) : Type 0 where
    pub storable : Storable b
    pub there : has_prohibition p b ≡ true

  -- so it is where no line holds
  pub old_prohibition : {b : Prohibition} → None (command_lines proper p (delete_prohibition b)) → OldProhibition b
  unfolding command_lines
  old_prohibition {b} n = record {
    storable = storable b (none_line n 2) (none_line n 6);
    there = not-false (has_prohibition p b) (or_fails (absent_in p b) (not (has_prohibition p b)) (none_line n 4)).1;
  }

  -- Start process: the id is new.
  pub record NewProcess (i u : ℕ) : Type 0 where
    pub id : ProcessId i
    pub owner : is_element_id u ≡ true
    pub low_owner : u ≤ 511
    pub new : user_of p i ≡ 0

  -- so it is where no line holds
  pub new_process : {i u : ℕ} → None (command_lines proper p (start_process i u)) → NewProcess i u
  unfolding command_lines is_process
  new_process {i} {u} n =
      let two = or_fails (not (is_process_id i)) (not (is_element_id u)) (none_line n 2) in
      record {
        id = one_process i two.0;
        owner = not-false (is_element_id u) two.1;
        low_owner = (one_id u two.1).high;
        new = eqb-true (user_of p i) 0 (not-false (eqb (user_of p i) 0) (none_line n 3));
      }

  -- End process: the number is an id.
  pub old_process : {i : ℕ} → None (command_lines proper p (end_process i)) → ProcessId i
  unfolding command_lines
  old_process {i} n = one_process i (none_line n 2)
