-- The words after an accepted command: a table, and its policy is the one after the command.
-- Assumes nothing.
use mathlib.Core.Path.{◌≡◌, refl, ap, ◌∙◌}
use mathlib.Core.Bool.{false}
use mathlib.Core.List.{List}
use Prim.Native.Nat.{ℕ, ◌<◌}
use native.Mathlib.Omega.{arith}
use lib.Dec.{eqb}
use lib.ListN.{length}
use Rattle.model.specs.Lists.{less_first, put}
use Rattle.model.specs.Policy.{Policy, class, is_element_id, is_kind, element_key, assignment_fields, with_elements, with_assignments, is_assigned}
use Rattle.model.specs.Refusal.{None, proper}
use Rattle.model.specs.Command.{Command, create_class, create_element, assign, deassign, delete_element, create_association, delete_association, create_prohibition, delete_prohibition, start_process, end_process, command_lines, after}
use Rattle.table.specs.Layout.{word}
use Rattle.table.specs.View.{policy_of}
use Rattle.table.specs.Facts.{Table}
use Rattle.store.specs.Words.{with_kind, with_assignment, without_assignments_of}
use Rattle.store.proofs.Ids.{kind_table_lem, kind_put, kind_less, user_table, user_put, user_less}
use Rattle.store.proofs.Assigned.{assignment_put, assignment_put_table, assignment_less, assignment_less_table, assignments_less, assignments_less_table}
use Rattle.store.proofs.Associated.{association_put, association_put_table, association_less, association_less_table}
use Rattle.store.proofs.Prohibited.{prohibition_put, prohibition_put_table, prohibition_less, prohibition_less_table}
use Rattle.table.proofs.Counted.{assignments_long, associations_long, prohibitions_long}
use Rattle.command.specs.Commanded.{words_after}
use Rattle.command.proofs.Accepted.{Id, new_class, NewElement, new_element, new_assignment, old_assignment, old_element, new_association, old_association, new_prohibition, old_prohibition, new_process, old_process}

-- A table, and the policy that it is.
pub record Holds (mem : List ℕ) (p : Policy) : Type 0 where
  pub table : Table mem
  pub policy : policy_of mem ≡ p

module _ {mem : List ℕ} (t : Table mem) where
  -- Create element: the element, then its assignment.
  module _ {x k y : ℕ} (e : NewElement (policy_of mem) x k y) where
    -- the words with the element
    pub first_table : Table (with_kind x k mem)
    first_table = kind_table_lem t x k e.id.low e.id.high

    first_policy : policy_of (with_kind x k mem) ≡ with_elements (policy_of mem) (put element_key (record { id = x; kind = k }) (policy_of mem).elements)
    first_policy = kind_put t x k e.id.low e.id.high e.new e.kind

    -- the assignment is still new
    pub still_unassigned : is_assigned (policy_of (with_kind x k mem)) x y ≡ false
    unfolding is_assigned
    still_unassigned = ap (λ p. is_assigned p x y) first_policy ∙ e.unassigned

    -- and there is still room for it
    pub still_room : word (with_kind x k mem) 1 < 2000
    still_room = omega (arith, assignments_long (with_kind x k mem), ap (λ (p : Policy). length p.assignments) first_policy, e.room)

    element_made : Holds (with_assignment x y (with_kind x k mem)) (after (policy_of mem) (create_element x k y))
    unfolding after
    element_made =
        let lx : x < 512 = omega (arith, e.id.high) in
        let ly : y < 512 = omega (arith, e.container.high) in
        record {
          table = assignment_put_table first_table x y lx ly still_room still_unassigned;
          policy = assignment_put first_table x y lx ly still_room
              ∙ ap (λ p. with_assignments p (put assignment_fields (record { child = x; container = y }) p.assignments)) first_policy;
        }

  -- Delete element: its assignments, then the element.
  element_gone : {x : ℕ} → Id x → Holds (with_kind x 0 (without_assignments_of x mem)) (after (policy_of mem) (delete_element x))
  unfolding after is_kind
  element_gone {x} i =
      let t1 = assignments_less_table t x in
      record {
        table = kind_table_lem t1 x 0 i.low i.high;
        policy = kind_less t1 x 0 i.low i.high refl
            ∙ ap (λ p. with_elements p (less_first (λ e. eqb x e.id) p.elements)) (assignments_less t x);
      }

  -- The words after an accepted command are a table, and its policy is the one after the command.
  pub holds_after : (c : Command) → None (command_lines proper (policy_of mem) c) → Holds (words_after mem c) (after (policy_of mem) c)
  unfolding words_after after is_kind is_element_id
  holds_after (create_class x) n =
      let e = new_class (policy_of mem) n in
      record { table = kind_table_lem t x class e.id.low e.id.high; policy = kind_put t x class e.id.low e.id.high e.new refl }
  holds_after (create_element x k y) n = element_made (new_element (policy_of mem) n)
  holds_after (assign x y) n =
      let e = new_assignment (policy_of mem) n in
      let lx : x < 512 = omega (arith, e.child.high) in
      let ly : y < 512 = omega (arith, e.container.high) in
      let few : word mem 1 < 2000 = omega (arith, assignments_long mem, e.room) in
      record { table = assignment_put_table t x y lx ly few e.unassigned; policy = assignment_put t x y lx ly few }
  holds_after (deassign x y) n =
      let e = old_assignment (policy_of mem) n in
      let lx : x < 512 = omega (arith, e.child.high) in
      let ly : y < 512 = omega (arith, e.container.high) in
      record { table = assignment_less_table t x y lx ly; policy = assignment_less t x y lx ly }
  holds_after (delete_element x) n = element_gone (old_element (policy_of mem) n)
  holds_after (create_association a) n =
      let e = new_association (policy_of mem) n in
      let h : a.target < 512 = omega (arith, e.target.high) in
      let few : word mem 2 < 1000 = omega (arith, associations_long mem, e.room) in
      record { table = association_put_table a h t few; policy = association_put a h t few }
  holds_after (delete_association a) n =
      let e = old_association (policy_of mem) n in
      let h : a.target < 512 = omega (arith, e.target.high) in
      record { table = association_less_table a h t; policy = association_less a h t }
  holds_after (create_prohibition b) n =
      let e = new_prohibition (policy_of mem) n in
      let few : word mem 3 < 200 = omega (arith, prohibitions_long mem, e.room) in
      record { table = prohibition_put_table t e.storable few; policy = prohibition_put t e.storable few e.new }
  holds_after (delete_prohibition b) n =
      let e = old_prohibition (policy_of mem) n in
      record { table = prohibition_less_table t e.storable; policy = prohibition_less t e.storable }
  holds_after (start_process i u) n =
      let e = new_process (policy_of mem) n in
      record { table = user_table t i u e.id.low e.id.high; policy = user_put t i u e.id.low e.id.high e.new e.owner }
  holds_after (end_process i) n =
      let e = old_process (policy_of mem) n in
      record { table = user_table t i 0 e.low e.high; policy = user_less t i 0 e.low e.high refl }
