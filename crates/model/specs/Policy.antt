-- 01, "What the machine holds": elements, assignments, associations, prohibitions, processes.
-- Assumes nothing.
use Rattle.std.specs.Prelude.{Bool, not, cond, ◌&&◌, ◌||◌, List, [], ◌∷◌, ◌++◌, ℕ, ◌/◌, ◌%◌, ◌^◌, eqb, leb, ltb, length}
use Rattle.model.specs.Lists.{any_of, same}

-- "Kinds: 1 user, 2 user attribute, 3 object, 4 object attribute, 5 policy class."
abbrev pub user : ℕ
user = 1

abbrev pub user_attribute : ℕ
user_attribute = 2

abbrev pub object : ℕ
object = 3

abbrev pub object_attribute : ℕ
object_attribute = 4

abbrev pub class : ℕ
class = 5

-- "Elements, ids 1 to 511."
unfoldable pub is_element_id : ℕ → Bool
is_element_id x = leb 1 x && leb x 511

-- "Processes, ids 1 to 255"
unfoldable pub is_process_id : ℕ → Bool
is_process_id x = leb 1 x && leb x 255

-- "kind not 1..5" is out of range
unfoldable pub is_kind : ℕ → Bool
is_kind k = leb 1 k && leb k 5

-- "attribute" alone means kinds 2, 3 and 4
unfoldable pub is_attribute_kind : ℕ → Bool
is_attribute_kind k = leb user_attribute k && leb k object_attribute

-- A set of rights 0 to 31 is a number below 2 ^ 32: right r is in it if its bit r is set.
unfoldable pub has_right : (rights r : ℕ) → Bool
has_right rights r = eqb (rights / 2 ^ r % 2) 1

-- "a non-empty set of rights 0 to 31"
unfoldable pub is_right_set : ℕ → Bool
is_right_set rights = leb 1 rights && ltb rights (2 ^ 32)

-- "user to user attribute; user attribute to user attribute or class; object or object attribute to object attribute or class. No other pairing."
-- It takes the two kinds.
unfoldable pub allowed : (child container : ℕ) → Bool
allowed child container =
    eqb child user && eqb container user_attribute
    || eqb child user_attribute && (eqb container user_attribute || eqb container class)
    || (eqb child object || eqb child object_attribute) && (eqb container object_attribute || eqb container class)

-- "Prohibitions: a subject (sort 1 user, 2 process, 3 user attribute) .. a form (0 disjunctive, 1 conjunctive)"
abbrev pub by_user : ℕ
by_user = 1

abbrev pub by_process : ℕ
by_process = 2

abbrev pub by_attribute : ℕ
by_attribute = 3

abbrev pub disjunctive : ℕ
disjunctive = 0

-- the sorts are 1, 2 and 3
unfoldable pub is_sort : ℕ → Bool
is_sort s = leb 1 s && leb s 3

-- the forms are 0 and 1
unfoldable pub is_form : ℕ → Bool
is_form f = leb f 1

-- an element
pub record Element : Type 0 where
  pub id : ℕ
  pub kind : ℕ

-- an assignment, "from child to container"
pub record Assignment : Type 0 where
  pub child : ℕ
  pub container : ℕ

-- an association: "a user attribute, a non-empty set of rights 0 to 31, a target"
pub record Association : Type 0 where
  pub attribute : ℕ
  pub target : ℕ
  pub rights : ℕ

-- a prohibition: its subject by sort and id, its form, its right set, its inclusion and its exclusion list
pub record Prohibition : Type 0 where
  pub sort : ℕ
  pub subject : ℕ
  pub form : ℕ
  pub rights : ℕ
  pub inclusion : List ℕ
  pub exclusion : List ℕ

-- a process, and the user that owns it
pub record Process : Type 0 where
  pub id : ℕ
  pub owner : ℕ

-- Each group as a list, in the order of the image.
pub record Policy : Type 0 where
  pub elements : List Element
  pub assignments : List Assignment
  pub associations : List Association
  pub prohibitions : List Prohibition
  pub processes : List Process

-- the policy with one group put anew
abbrev pub with_elements : Policy → List Element → Policy
with_elements p l = record { elements = l; assignments = p.assignments; associations = p.associations; prohibitions = p.prohibitions; processes = p.processes }

abbrev pub with_assignments : Policy → List Assignment → Policy
with_assignments p l = record { elements = p.elements; assignments = l; associations = p.associations; prohibitions = p.prohibitions; processes = p.processes }

abbrev pub with_associations : Policy → List Association → Policy
with_associations p l = record { elements = p.elements; assignments = p.assignments; associations = l; prohibitions = p.prohibitions; processes = p.processes }

abbrev pub with_prohibitions : Policy → List Prohibition → Policy
with_prohibitions p l = record { elements = p.elements; assignments = p.assignments; associations = p.associations; prohibitions = l; processes = p.processes }

abbrev pub with_processes : Policy → List Process → Policy
with_processes p l = record { elements = p.elements; assignments = p.assignments; associations = p.associations; prohibitions = p.prohibitions; processes = l }

-- the policy that holds nothing
abbrev pub empty_policy : Policy
empty_policy = record { elements = []; assignments = []; associations = []; prohibitions = []; processes = [] }

-- The fields of a record as the image writes them; "elements and processes rise by id alone".
abbrev pub element_key : Element → List ℕ
element_key e = e.id ∷ []

-- all fields of an element
abbrev pub element_fields : Element → List ℕ
element_fields e = e.id ∷ e.kind ∷ []

-- "Assignments: child 9, container 9."
abbrev pub assignment_fields : Assignment → List ℕ
assignment_fields a = a.child ∷ a.container ∷ []

-- "Associations: user attribute 9, target 9, rights 32"
abbrev pub association_fields : Association → List ℕ
association_fields a = a.attribute ∷ a.target ∷ a.rights ∷ []

-- "Prohibitions: sort 2, subject 9, form 1, rights 32, inclusion count 3, exclusion count 3, ids 9 each": the counts stand before the ids
abbrev pub prohibition_fields : Prohibition → List ℕ
prohibition_fields b =
    b.sort ∷ b.subject ∷ b.form ∷ b.rights ∷ length b.inclusion ∷ length b.exclusion ∷ (b.inclusion ++ b.exclusion)

-- "processes rise by id alone"
abbrev pub process_key : Process → List ℕ
process_key q = q.id ∷ []

-- all fields of a process
abbrev pub process_fields : Process → List ℕ
process_fields q = q.id ∷ q.owner ∷ []

-- the kind of the element x, 0 where it is not there
unfoldable pub kind_in : List Element → ℕ → ℕ
kind_in [] x = 0
kind_in (e ∷ l) x = cond (eqb e.id x) e.kind (kind_in l x)

-- the same in a policy
unfoldable pub kind_of : Policy → ℕ → ℕ
kind_of p x = kind_in p.elements x

-- the element is there
unfoldable pub is_there : Policy → ℕ → Bool
is_there p x = not (eqb (kind_of p x) 0)

-- the user of the process i, 0 where it is not there
unfoldable pub owner_in : List Process → ℕ → ℕ
owner_in [] i = 0
owner_in (q ∷ l) i = cond (eqb q.id i) q.owner (owner_in l i)

-- the same in a policy
unfoldable pub user_of : Policy → ℕ → ℕ
user_of p i = owner_in p.processes i

-- the process is there
unfoldable pub is_process : Policy → ℕ → Bool
is_process p i = not (eqb (user_of p i) 0)

-- the relation stands in the policy, field by field
unfoldable pub is_assigned : Policy → (child container : ℕ) → Bool
is_assigned p x y = any_of (λ a. eqb x a.child && eqb y a.container) p.assignments

-- "exact triple"
unfoldable pub has_association : Policy → Association → Bool
has_association p a = any_of (λ b. same (association_fields a) (association_fields b)) p.associations

-- "exact fields"
unfoldable pub has_prohibition : Policy → Prohibition → Bool
has_prohibition p b = any_of (λ c. same (prohibition_fields b) (prohibition_fields c)) p.prohibitions
