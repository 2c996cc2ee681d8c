-- A command that is answered `Ok` and leaves the policy as it found it meets no contract: a command that is done puts an item that was not there, or
-- removes one that was.
-- Assumes nothing.
use mathlib.Core.Path.{◌≡◌, refl, sym, ap, fun_ext, ◌∙◌}
use mathlib.Core.Bool.{Bool, true, false, not, ◌&&◌, ◌||◌}
use mathlib.Core.List.{List, [], ◌∷◌}
use Prim.Native.Nat.{ℕ}
use borrow.Author.Tests.{eqb-true, eqb-false, eq-eqb, not-true, not-false}
use lib.Dec.{eqb}
use lib.ListN.{get_or}
use Rattle.model.specs.Lists.{In, any_of, same, rising}
use Rattle.model.specs.Policy.{Policy, class, is_element_id, is_process_id, is_kind, kind_of, is_there, user_of, is_process, is_assigned, has_association, has_prohibition, element_fields, process_fields}
use Rattle.model.specs.Sound.{Sound}
use Rattle.model.specs.Refusal.{None, proper}
use Rattle.model.specs.Command.{Command, create_class, create_element, assign, deassign, delete_element, create_association, delete_association, create_prohibition, delete_prohibition, start_process, end_process, absent_in, command_lines, after}
use Rattle.model.specs.History.{Item, an_element, an_assignment, an_association, a_prohibition, a_process, item_fields, is_item, holds, puts, is_element_or_own, is_process_item, removes}
use Rattle.model.proofs.Truth.{clash, or_left, or_fails, fails_when, Tested, passes, fails, tested, Found, any_in, any_found, any_none}
use Rattle.model.proofs.Order.{same_equal, equal_same}
use Rattle.model.proofs.Commands.Ids.{Reads, kinds, owners, by_id, read_in, read_none}
use Rattle.model.proofs.Commands.Lines.{none_line, absent}
use Rattle.model.proofs.Commands.Parts.{parts}
use Rattle.model.proofs.Commands.Keeps.{pair_same}
use Rattle.model.proofs.Commands.Stands.{has, step_holds}
use Rattle.table.specs.View.{policy_of}
use Rattle.std.specs.Prelude.{Result, Ok}
use Rattle.answer.specs.declared.Refusal.{Refusal}
use Rattle.command.specs.Commanded.{Commanded}
use Rattle.command.proofs.Theorems.{done_exact, went}

-- an item that the command puts and that was not there, or one that it removes and that was
data Changed (p : Policy) (c : Command) : Type 0 where
  comes : (i : Item) → puts c i ≡ true → holds p i ≡ false → Changed p c
  goes : (i : Item) → puts c i ≡ false → removes c i ≡ true → holds p i ≡ true → Changed p c

-- so the policy is another one
changed_other : (p : Policy) → Sound p → (c : Command) → Changed p c → after p c ≡ p → ⊥
changed_other p s c (comes i a b) e =
    let q : holds (after p c) i ≡ true = step_holds p s c i ∙ or_left (puts c i) (holds p i && not (removes c i)) a in
    clash q (ap (λ r. holds r i) e ∙ b)
changed_other p s c (goes i a r b) e =
    let q : holds (after p c) i ≡ false = step_holds p s c i ∙ rw (a, r, b) refl in
    clash (ap (λ r. holds r i) e ∙ b) q

-- an item is the same as itself
itself : (i : Item) → is_item i i ≡ true
unfolding is_item
itself i = equal_same (item_fields i) (item_fields i) refl

-- each record of a group is held
held_in : {A : Type 0} (fields : A → List ℕ) {a : A} {l : List A} → In a l → has fields l a ≡ true
held_in fields {a} i = any_in (λ b. same (fields a) (fields b)) i (equal_same (fields a) (fields a) refl)

-- What is looked up by id, in a group that strictly rises by it.
module _ {A : Type 0} {id value : A → ℕ} {g : List A → ℕ → ℕ} (r : Reads id value g) (l : List A) where
  -- an id that reads something other than 0 is that of a record
  looked_up : (x : ℕ) → (g l x ≡ 0 → ⊥) → Found (λ a. eqb x (id a)) l
  looked_up x d = go (tested (any_of (λ a. eqb x (id a)) l))
    where
      go : Tested (any_of (λ a. eqb x (id a)) l) → Found (λ a. eqb x (id a)) l
      go (passes e) = any_found (λ a. eqb x (id a)) l e
      go (fails e) = absurd (d (read_none r l x (λ a i q. clash (eq-eqb x (id a) (sym q)) (any_none (λ a. eqb x (id a)) e i))))

  -- where an id reads 0, no record has it with a value other than 0
  not_held : rising (by_id r) l ≡ true → (x v : ℕ) → g l x ≡ 0 → (v ≡ 0 → ⊥) → any_of (λ a. same (x ∷ v ∷ []) (id a ∷ value a ∷ [])) l ≡ false
  not_held o x v z d = fails_when (any_of is l) (λ e. go (any_found is l e))
    where
      is : A → Bool
      is a = same (x ∷ v ∷ []) (id a ∷ value a ∷ [])

      go : Found is l → ⊥
      go f =
          let q = same_equal (x ∷ v ∷ []) (id f.it ∷ value f.it ∷ []) f.is in
          let qx : x ≡ id f.it = ap (λ k. get_or k 0 0) q in
          let qv : v ≡ value f.it = ap (λ k. get_or k 1 0) q in
          d (qv ∙ sym (read_in r o f.there) ∙ ap (g l) (sym qx) ∙ z)

module _ (p : Policy) (s : Sound p) where
  -- an element that is not there is not held, whatever its kind
  new_element : (x k : ℕ) → is_there p x ≡ false → is_kind k ≡ true → holds p (an_element (record { id = x; kind = k })) ≡ false
  unfolding holds kind_of is_kind
  new_element x k e h = not_held kinds p.elements (parts p s).elements.order x k (absent p x e) (λ z. clash (rw z at h) refl)

  -- nor a process that is not there, whoever its user
  new_process : (i u : ℕ) → is_process p i ≡ false → is_element_id u ≡ true → holds p (a_process (record { id = i; owner = u })) ≡ false
  unfolding holds is_process user_of is_element_id
  new_process i u e h =
      let none : user_of p i ≡ 0 = eqb-true (user_of p i) 0 (not-false (eqb (user_of p i) 0) e) in
      not_held owners p.processes (parts p s).rest.processes.order i u none (λ z. clash (rw z at h) refl)

  -- a policy holds an assignment exactly if it is there
  held_assignment : (x y : ℕ) → holds p (an_assignment (record { child = x; container = y })) ≡ is_assigned p x y
  unfolding holds is_assigned
  held_assignment x y = ap (λ f. any_of f p.assignments) (fun_ext (pair_same x y))

  -- deleting an element that is there removes it
  element_goes : (x : ℕ) → is_there p x ≡ true → Changed p (delete_element x)
  unfolding holds puts removes is_element_or_own is_there kind_of
  element_goes x e =
      let f = looked_up kinds p.elements x (eqb-false (kind_of p x) 0 (not-true (eqb (kind_of p x) 0) e)) in
      goes (an_element f.it) refl f.is (held_in element_fields f.there)

  -- ending a process that is there removes it
  process_goes : (i : ℕ) → is_process p i ≡ true → Changed p (end_process i)
  unfolding holds puts removes is_process_item is_process user_of
  process_goes i e =
      let f = looked_up owners p.processes i (eqb-false (user_of p i) 0 (not-true (eqb (user_of p i) 0) e)) in
      goes (a_process f.it) refl f.is (held_in process_fields f.there)

  -- what an accepted command changes
  changed : (c : Command) → None (command_lines proper p c) → Changed p c
  unfolding command_lines holds puts removes has_association has_prohibition is_kind
  changed (create_class x) n = comes (an_element (record { id = x; kind = class })) (itself _) (new_element x class (none_line n 3) refl)
  changed (create_element x k y) n =
      let i : Item = an_element (record { id = x; kind = k }) in
      let two = or_fails (not (is_element_id x) || not (is_kind k)) (not (is_element_id y)) (none_line n 2) in
      let kind = (or_fails (not (is_element_id x)) (not (is_kind k)) two.0).1 in
      comes i (or_left (is_item i i) (is_item (an_assignment (record { child = x; container = y })) i) (itself i))
      (new_element x k (or_fails (is_there p x) (is_assigned p x y) (none_line n 3)).0 (not-false (is_kind k) kind))
  changed (assign x y) n = comes (an_assignment (record { child = x; container = y })) (itself _) (held_assignment x y ∙ none_line n 3)
  changed (deassign x y) n =
      let there = (or_fails (not (is_there p x) || not (is_there p y)) (not (is_assigned p x y)) (none_line n 4)).1 in
      goes (an_assignment (record { child = x; container = y })) refl (itself _) (held_assignment x y ∙ not-false (is_assigned p x y) there)
  changed (delete_element x) n = element_goes x (not-false (is_there p x) (none_line n 4))
  changed (create_association a) n = comes (an_association a) (itself _) (none_line n 3)
  changed (delete_association a) n =
      let there = (or_fails (not (is_there p a.attribute) || not (is_there p a.target)) (not (has_association p a)) (none_line n 4)).1 in
      goes (an_association a) refl (itself _) (not-false (has_association p a) there)
  changed (create_prohibition b) n = comes (a_prohibition b) (itself _) (none_line n 3)
  changed (delete_prohibition b) n =
      let there = (or_fails (absent_in p b) (not (has_prohibition p b)) (none_line n 4)).1 in
      goes (a_prohibition b) refl (itself _) (not-false (has_prohibition p b) there)
  changed (start_process i u) n =
      let two = or_fails (not (is_process_id i)) (not (is_element_id u)) (none_line n 2) in
      comes (a_process (record { id = i; owner = u })) (itself _) (new_process i u (none_line n 3) (not-false (is_element_id u) two.1))
  changed (end_process i) n = process_goes i (not-false (is_process p i) (none_line n 4))

-- a command that is done on a sound policy leaves another policy
pub done_changes : {mem idx : List ℕ} {c : Command} {r : Result (Unit {0}) Refusal} {mem' idx' : List ℕ} → Sound (policy_of mem) → Commanded mem idx c r mem' idx'
    → r ≡ Ok tt → policy_of mem' ≡ policy_of mem → ⊥
done_changes {mem} {c = c} s k d e =
    let w = went k ((done_exact k).0 d) in
    changed_other (policy_of mem) s c (changed (policy_of mem) s c w.found.lines) (sym w.policy ∙ e)
