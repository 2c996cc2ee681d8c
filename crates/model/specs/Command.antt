-- 01, "Commands", with the refusal lines of each, lowest first.
-- Assumes nothing.
use Rattle.std.specs.Prelude.{Bool, true, not, cond, ◌&&◌, ◌||◌, List, [], ◌∷◌, ℕ, ◌^◌, eqb, leb, ltb, length}
use Rattle.model.specs.Lists.{any_of, all_of, those, less_first, member, same, put}
use Rattle.model.specs.Policy.{Association, Prohibition, Policy, class, by_process, is_element_id, is_process_id, is_kind, is_attribute_kind, is_sort, is_form, allowed, with_elements, with_assignments, with_associations, with_prohibitions, with_processes, element_key, assignment_fields, association_fields, prohibition_fields, process_key, kind_of, is_there, is_process, is_assigned, has_association, has_prohibition, user}
use Rattle.model.specs.Contain.{contained}
use Rattle.model.specs.Sound.{most_assignments, most_associations, most_prohibitions, subject_in_range, listed, lists_fit, subject_there, subject_of_kind, association_pairs}
use Rattle.model.specs.Refusal.{Line, ◌when◌, refusal, Lent, no_table, bad_index, proper}

-- "Create class(id). Create element(id, kind, container) .. Assign, deassign(child, container). Delete element(id), with its own
-- assignments. Create and delete association, exact triple. Create and delete prohibition, exact fields. Start process(id, user). End
-- process(id)."
pub data Command : Type 0 where
  create_class : (id : ℕ) → Command
  create_element : (id kind container : ℕ) → Command
  assign : (child container : ℕ) → Command
  deassign : (child container : ℕ) → Command
  delete_element : (id : ℕ) → Command
  create_association : Association → Command
  delete_association : Association → Command
  create_prohibition : Prohibition → Command
  delete_prohibition : Prohibition → Command
  start_process : (id owner : ℕ) → Command
  end_process : (id : ℕ) → Command

-- What a caller can pass: a right set is a number of 32 bits.
unfoldable pub fits : Command → Bool
fits (create_class x) = true
fits (create_element x k y) = true
fits (assign x y) = true
fits (deassign x y) = true
fits (delete_element x) = true
fits (create_association a) = ltb a.rights (2 ^ 32)
fits (delete_association a) = ltb a.rights (2 ^ 32)
fits (create_prohibition b) = ltb b.rights (2 ^ 32)
fits (delete_prohibition b) = ltb b.rights (2 ^ 32)
fits (start_process i u) = true
fits (end_process i) = true

-- Conditions of the lines, in 01's words.

-- 2: "subject sort or form unknown", the subject and the listed elements out of range
unfoldable pub bad_prohibition : Prohibition → Bool
bad_prohibition b = not (is_sort b.sort) || not (is_form b.form) || not (subject_in_range b) || not (all_of is_element_id (listed b))

-- 4: the subject or a listed attribute is absent
unfoldable pub absent_in : Policy → Prohibition → Bool
absent_in p b = not (subject_there p b) || not (all_of (is_there p) (listed b))

-- 5: the subject or a listed attribute is of another kind
unfoldable pub wrong_kind_in : Policy → Prohibition → Bool
wrong_kind_in p b = not (subject_of_kind p b) || not (all_of (λ x. is_attribute_kind (kind_of p x)) (listed b))

-- 6: "empty right set; list too long or not strictly rising; both lists empty"
unfoldable pub ill_formed : Prohibition → Bool
ill_formed b = eqb b.rights 0 || not (lists_fit b)

-- 8: "it is the child's only assignment"
unfoldable pub only_one : Policy → (child : ℕ) → Bool
only_one p x = eqb (length (those (λ a. eqb a.child x) p.assignments)) 1

-- 9: "element has something assigned to it, or an association, prohibition or process names it"
unfoldable pub prohibition_names_element : (x : ℕ) → Prohibition → Bool
prohibition_names_element x b = not (eqb b.sort by_process) && eqb b.subject x || member x (listed b)

-- the element is named by anything
unfoldable pub in_use : Policy → (x : ℕ) → Bool
in_use p x =
    any_of (λ a. eqb a.container x) p.assignments
    || any_of (λ a. eqb a.attribute x || eqb a.target x) p.associations
    || any_of (prohibition_names_element x) p.prohibitions
    || any_of (λ q. eqb q.owner x) p.processes

-- 9: "a prohibition names the process"
unfoldable pub process_in_use : Policy → (i : ℕ) → Bool
process_in_use p i = any_of (λ b. eqb b.sort by_process && eqb b.subject i) p.prohibitions

-- 10: "the limit is reached"
abbrev pub full_of_assignments : Policy → Bool
full_of_assignments p = leb most_assignments (length p.assignments)

-- the same of associations
abbrev pub full_of_associations : Policy → Bool
full_of_associations p = leb most_associations (length p.associations)

-- the same of prohibitions
abbrev pub full_of_prohibitions : Policy → Bool
full_of_prohibitions p = leb most_prohibitions (length p.prohibitions)

-- The lines of each command.
unfoldable pub command_lines : Lent → Policy → Command → List Line
command_lines m p (create_class x) =
    (1 when no_table m)
    ∷ (2 when bad_index m || not (is_element_id x))
    ∷ (3 when is_there p x)
    ∷ []
command_lines m p (create_element x k y) =
    (1 when no_table m)
    ∷ (2 when bad_index m || not (is_element_id x) || not (is_kind k) || not (is_element_id y))
    ∷ (3 when is_there p x || is_assigned p x y)
    ∷ (4 when not (is_there p y))
    ∷ (5 when eqb k class || not (allowed k (kind_of p y)))
    ∷ (10 when full_of_assignments p)
    ∷ []
command_lines m p (assign x y) =
    (1 when no_table m)
    ∷ (2 when bad_index m || not (is_element_id x) || not (is_element_id y))
    ∷ (3 when is_assigned p x y)
    ∷ (4 when not (is_there p x) || not (is_there p y))
    ∷ (5 when not (allowed (kind_of p x) (kind_of p y)))
    ∷ (7 when eqb x y || contained p y x)
    ∷ (10 when full_of_assignments p)
    ∷ []
command_lines m p (deassign x y) =
    (1 when no_table m)
    ∷ (2 when bad_index m || not (is_element_id x) || not (is_element_id y))
    ∷ (4 when not (is_there p x) || not (is_there p y) || not (is_assigned p x y))
    ∷ (5 when not (allowed (kind_of p x) (kind_of p y)))
    ∷ (8 when only_one p x)
    ∷ []
command_lines m p (delete_element x) =
    (1 when no_table m)
    ∷ (2 when bad_index m || not (is_element_id x))
    ∷ (4 when not (is_there p x))
    ∷ (9 when in_use p x)
    ∷ []
command_lines m p (create_association a) =
    (1 when no_table m)
    ∷ (2 when bad_index m || not (is_element_id a.attribute) || not (is_element_id a.target))
    ∷ (3 when has_association p a)
    ∷ (4 when not (is_there p a.attribute) || not (is_there p a.target))
    ∷ (5 when not (association_pairs p a))
    ∷ (6 when eqb a.rights 0)
    ∷ (10 when full_of_associations p)
    ∷ []
command_lines m p (delete_association a) =
    (1 when no_table m)
    ∷ (2 when bad_index m || not (is_element_id a.attribute) || not (is_element_id a.target))
    ∷ (4 when not (is_there p a.attribute) || not (is_there p a.target) || not (has_association p a))
    ∷ (5 when not (association_pairs p a))
    ∷ (6 when eqb a.rights 0)
    ∷ []
command_lines m p (create_prohibition b) =
    (1 when no_table m)
    ∷ (2 when bad_index m || bad_prohibition b)
    ∷ (3 when has_prohibition p b)
    ∷ (4 when absent_in p b)
    ∷ (5 when wrong_kind_in p b)
    ∷ (6 when ill_formed b)
    ∷ (10 when full_of_prohibitions p)
    ∷ []
command_lines m p (delete_prohibition b) =
    (1 when no_table m)
    ∷ (2 when bad_index m || bad_prohibition b)
    ∷ (4 when absent_in p b || not (has_prohibition p b))
    ∷ (5 when wrong_kind_in p b)
    ∷ (6 when ill_formed b)
    ∷ []
command_lines m p (start_process i u) =
    (1 when no_table m)
    ∷ (2 when bad_index m || not (is_process_id i) || not (is_element_id u))
    ∷ (3 when is_process p i)
    ∷ (4 when not (is_there p u))
    ∷ (5 when not (eqb (kind_of p u) user))
    ∷ []
command_lines m p (end_process i) =
    (1 when no_table m)
    ∷ (2 when bad_index m || not (is_process_id i))
    ∷ (4 when not (is_process p i))
    ∷ (9 when process_in_use p i)
    ∷ []

-- The line of the call new: the memory's length alone.
abbrev pub new_lines : (length_fits : Bool) → List Line
new_lines length_fits = (1 when not length_fits) ∷ []

-- A command given a table and an index of the right length: its refusal number, 0 where it is accepted.
unfoldable pub command_refusal : Policy → Command → ℕ
command_refusal p c = refusal (command_lines proper p c)

-- The policy after an accepted command.
unfoldable pub after : Policy → Command → Policy
after p (create_class x) = with_elements p (put element_key (record { id = x; kind = class }) p.elements)
after p (create_element x k y) =
    with_assignments (with_elements p (put element_key (record { id = x; kind = k }) p.elements))
    (put assignment_fields (record { child = x; container = y }) p.assignments)
after p (assign x y) = with_assignments p (put assignment_fields (record { child = x; container = y }) p.assignments)
after p (deassign x y) = with_assignments p (less_first (λ a. eqb x a.child && eqb y a.container) p.assignments)
after p (delete_element x) =
    with_assignments (with_elements p (less_first (λ e. eqb x e.id) p.elements))
    (those (λ a. not (eqb x a.child)) p.assignments)
after p (create_association a) = with_associations p (put association_fields a p.associations)
after p (delete_association a) = with_associations p (less_first (λ b. same (association_fields a) (association_fields b)) p.associations)
after p (create_prohibition b) = with_prohibitions p (put prohibition_fields b p.prohibitions)
after p (delete_prohibition b) = with_prohibitions p (less_first (λ c. same (prohibition_fields b) (prohibition_fields c)) p.prohibitions)
after p (start_process i u) = with_processes p (put process_key (record { id = i; owner = u }) p.processes)
after p (end_process i) = with_processes p (less_first (λ q. eqb i q.id) p.processes)

-- The policy after a command that was refused or not: "A refused call .. writes nothing."
unfoldable pub step : Policy → Command → Policy
step p c = cond (eqb (command_refusal p c) 0) (after p c) p
