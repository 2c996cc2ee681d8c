-- 01, "What the machine holds": what a policy must be. The first half can be seen from the fields alone (an image that breaks it is refused
-- with 13), the second from what the fields name (refused with 14).
-- Assumes nothing.
use Rattle.std.specs.Prelude.{◌≡◌, Bool, true, not, cond, ◌&&◌, ◌||◌, List, ◌++◌, ℕ, eqb, leb, length}
use Rattle.model.specs.Lists.{any_of, all_of, empty, rising, rising_ids}
use Rattle.model.specs.Policy.{Element, Assignment, Association, Prohibition, Process, Policy, user, user_attribute, class, by_user, by_process, is_element_id, is_process_id, is_kind, is_attribute_kind, is_right_set, is_sort, is_form, allowed, element_key, assignment_fields, association_fields, prohibition_fields, process_key, kind_of, is_there, is_process}
use Rattle.model.specs.Contain.{contained}

-- "Assignments, at most 2,000"; "Associations, at most 1,000"; "Prohibitions, at most 200"
abbrev pub most_assignments : ℕ
most_assignments = 2000

-- "at most 1,000"
abbrev pub most_associations : ℕ
most_associations = 1000

-- "at most 200"
abbrev pub most_prohibitions : ℕ
most_prohibitions = 200

-- no group is past its limit
unfoldable pub within_limits : Policy → Bool
within_limits p =
    leb (length p.assignments) most_assignments
    && leb (length p.associations) most_associations
    && leb (length p.prohibitions) most_prohibitions

-- Prohibitions, field by field.
unfoldable pub subject_in_range : Prohibition → Bool
subject_in_range b = cond (eqb b.sort by_process) (is_process_id b.subject) (is_element_id b.subject)

-- the attributes that a prohibition lists, inclusions first
abbrev pub listed : Prohibition → List ℕ
listed b = b.inclusion ++ b.exclusion

-- "an inclusion and an exclusion list of at most four attributes each, each list strictly rising, not both empty"
unfoldable pub lists_fit : Prohibition → Bool
lists_fit b =
    leb (length b.inclusion) 4 && leb (length b.exclusion) 4
    && rising_ids b.inclusion && rising_ids b.exclusion
    && not (empty (listed b))

-- the fields of one record of each group
unfoldable pub element_fits : Element → Bool
element_fits e = is_element_id e.id && is_kind e.kind

-- an assignment's fields
unfoldable pub assignment_fits : Assignment → Bool
assignment_fits a = is_element_id a.child && is_element_id a.container

-- an association's
unfoldable pub association_fits : Association → Bool
association_fits a = is_element_id a.attribute && is_element_id a.target && is_right_set a.rights

-- a prohibition's
unfoldable pub prohibition_fits : Prohibition → Bool
prohibition_fits b =
    is_sort b.sort && subject_in_range b && is_form b.form && is_right_set b.rights && all_of is_element_id (listed b) && lists_fit b

-- a process's
unfoldable pub process_fits : Process → Bool
process_fits q = is_process_id q.id && is_element_id q.owner

-- every field of every record is in range
unfoldable pub fields_fit : Policy → Bool
fields_fit p =
    all_of element_fits p.elements
    && all_of assignment_fits p.assignments
    && all_of association_fits p.associations
    && all_of prohibition_fits p.prohibitions
    && all_of process_fits p.processes

-- "Each group strictly rises"
unfoldable pub groups_rise : Policy → Bool
groups_rise p =
    rising element_key p.elements
    && rising assignment_fields p.assignments
    && rising association_fields p.associations
    && rising prohibition_fields p.prohibitions
    && rising process_key p.processes

-- What the fields name: elements and processes that are there, of the right kinds. An absent element's kind is 0, which fits nowhere.
unfoldable pub assignment_pairs : Policy → Assignment → Bool
assignment_pairs p a = allowed (kind_of p a.child) (kind_of p a.container)

-- "a user attribute .. a target (user attribute, object attribute or object)"
unfoldable pub association_pairs : Policy → Association → Bool
association_pairs p a = eqb (kind_of p a.attribute) user_attribute && is_attribute_kind (kind_of p a.target)

-- a prohibition's subject is there
unfoldable pub subject_there : Policy → Prohibition → Bool
subject_there p b = cond (eqb b.sort by_process) (is_process p b.subject) (is_there p b.subject)

-- "a subject (sort 1 user, 2 process, 3 user attribute)"
unfoldable pub subject_of_kind : Policy → Prohibition → Bool
subject_of_kind p b =
    cond (eqb b.sort by_process) true (eqb (kind_of p b.subject) (cond (eqb b.sort by_user) user user_attribute))

-- its subject and its listed attributes are there, of the kinds that 01 asks
unfoldable pub prohibition_pairs : Policy → Prohibition → Bool
prohibition_pairs p b = subject_there p b && subject_of_kind p b && all_of (λ x. is_attribute_kind (kind_of p x)) (listed b)

-- "Processes, each of one user"
unfoldable pub process_pairs : Policy → Process → Bool
process_pairs p q = eqb (kind_of p q.owner) user

-- every record names what is there, of the kinds that 01 asks
unfoldable pub pairs_fit : Policy → Bool
pairs_fit p =
    all_of (assignment_pairs p) p.assignments
    && all_of (association_pairs p) p.associations
    && all_of (prohibition_pairs p) p.prohibitions
    && all_of (process_pairs p) p.processes

-- "No cycle.": no assignment's container is within its child
unfoldable pub no_cycle : Policy → Bool
no_cycle p = all_of (λ a. not (contained p a.container a.child)) p.assignments

-- "Every element but a class has at least one assignment."
unfoldable pub assigned_or_class : Policy → Element → Bool
assigned_or_class p e = eqb e.kind class || any_of (λ a. eqb a.child e.id) p.assignments

-- of each element
unfoldable pub all_assigned : Policy → Bool
all_assigned p = all_of (assigned_or_class p) p.elements

-- A sound policy: all that the first section of 01 demands.
pub record Sound (p : Policy) : Type 0 where
  pub limits : within_limits p ≡ true
  pub fields : fields_fit p ≡ true
  pub order : groups_rise p ≡ true
  pub names : pairs_fit p ≡ true
  pub acyclic : no_cycle p ≡ true
  pub assigned : all_assigned p ≡ true
