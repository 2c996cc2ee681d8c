-- Any sequence of commands, refused ones among them, and what was put and not since removed. A call that finds no table, or an index of another
-- length, is refused and changes nothing, so a run is of calls that find both.
-- Assumes nothing.
use Rattle.std.specs.Prelude.{Bool, false, not, cond, ◌&&◌, ◌||◌, List, [], ◌∷◌, ℕ, eqb}
use Rattle.model.specs.Lists.{In, any_of, same}
use Rattle.model.specs.Policy.{Element, Assignment, Association, Prohibition, Process, Policy, class, element_fields, assignment_fields, association_fields, prohibition_fields, process_fields}
use Rattle.model.specs.Contain.{Within}
use Rattle.model.specs.Rule.{classes}
use Rattle.model.specs.Command.{Command, create_class, create_element, assign, deassign, delete_element, create_association, delete_association, create_prohibition, delete_prohibition, start_process, end_process, command_refusal, step}

-- the policy after a sequence of commands
unfoldable pub run : Policy → List Command → Policy
run p [] = p
run p (c ∷ cs) = run (step p c) cs

-- those of a sequence that were accepted
unfoldable pub accepted_of : Policy → List Command → List Command
accepted_of p [] = []
accepted_of p (c ∷ cs) = cond (eqb (command_refusal p c) 0) (c ∷ accepted_of (step p c) cs) (accepted_of (step p c) cs)

-- Whatever a policy can hold.
pub data Item : Type 0 where
  an_element : Element → Item
  an_assignment : Assignment → Item
  an_association : Association → Item
  a_prohibition : Prohibition → Item
  a_process : Process → Item

-- an item's group and fields
unfoldable pub item_fields : Item → List ℕ
item_fields (an_element e) = 1 ∷ element_fields e
item_fields (an_assignment a) = 2 ∷ assignment_fields a
item_fields (an_association a) = 3 ∷ association_fields a
item_fields (a_prohibition b) = 4 ∷ prohibition_fields b
item_fields (a_process q) = 5 ∷ process_fields q

-- the same item
unfoldable pub is_item : Item → Item → Bool
is_item i j = same (item_fields i) (item_fields j)

-- the policy holds the item
unfoldable pub holds : Policy → Item → Bool
holds p (an_element e) = any_of (λ f. same (element_fields e) (element_fields f)) p.elements
holds p (an_assignment a) = any_of (λ b. same (assignment_fields a) (assignment_fields b)) p.assignments
holds p (an_association a) = any_of (λ b. same (association_fields a) (association_fields b)) p.associations
holds p (a_prohibition a) = any_of (λ b. same (prohibition_fields a) (prohibition_fields b)) p.prohibitions
holds p (a_process q) = any_of (λ b. same (process_fields q) (process_fields b)) p.processes

-- what a command puts
unfoldable pub puts : Command → Item → Bool
puts (create_class x) i = is_item (an_element (record { id = x; kind = class })) i
puts (create_element x k y) i =
    is_item (an_element (record { id = x; kind = k })) i || is_item (an_assignment (record { child = x; container = y })) i
puts (assign x y) i = is_item (an_assignment (record { child = x; container = y })) i
puts (deassign x y) i = false
puts (delete_element x) i = false
puts (create_association a) i = is_item (an_association a) i
puts (delete_association a) i = false
puts (create_prohibition b) i = is_item (a_prohibition b) i
puts (delete_prohibition b) i = false
puts (start_process n u) i = is_item (a_process (record { id = n; owner = u })) i
puts (end_process n) i = false

-- the element x, and its own assignments
unfoldable pub is_element_or_own : (x : ℕ) → Item → Bool
is_element_or_own x (an_element e) = eqb x e.id
is_element_or_own x (an_assignment a) = eqb x a.child
is_element_or_own x (an_association a) = false
is_element_or_own x (a_prohibition b) = false
is_element_or_own x (a_process q) = false

-- the process with this id
unfoldable pub is_process_item : (n : ℕ) → Item → Bool
is_process_item n (an_element e) = false
is_process_item n (an_assignment a) = false
is_process_item n (an_association a) = false
is_process_item n (a_prohibition b) = false
is_process_item n (a_process q) = eqb n q.id

-- what a command removes
unfoldable pub removes : Command → Item → Bool
removes (create_class x) i = false
removes (create_element x k y) i = false
removes (assign x y) i = false
removes (deassign x y) i = is_item (an_assignment (record { child = x; container = y })) i
removes (delete_element x) i = is_element_or_own x i
removes (create_association a) i = false
removes (delete_association a) i = is_item (an_association a) i
removes (create_prohibition b) i = false
removes (delete_prohibition b) i = is_item (a_prohibition b) i
removes (start_process n u) i = false
removes (end_process n) i = is_process_item n i

-- "exactly what was put and not since removed": of what stood at the start and a log of accepted commands, oldest first
unfoldable pub stands : (Item → Bool) → List Command → Item → Bool
stands start [] i = start i
stands start (c ∷ log) i = stands (λ j. puts c j || start j && not (removes c j)) log i

-- "every element is or reaches a policy class": x is a policy class, or reaches one
pub record Reaches (p : Policy) (x : ℕ) : Type 0 where
  pub its_class : ℕ
  pub is_class_lem : In its_class (classes p)
  pub within_it : Within p.assignments x its_class
