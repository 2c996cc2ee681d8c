-- "A deleted id, and the room of anything removed, can be used again."
-- Assumes nothing.
use mathlib.Core.Path.{◌≡◌, refl, sym, ap, ◌∙◌}
use mathlib.Core.Bool.{Bool, true, false, not, cond, ◌&&◌, ◌||◌}
use mathlib.Core.List.{List, [], ◌∷◌}
use Prim.Native.Nat.{ℕ, suc, ◌+◌}
use native.Mathlib.Omega.{arith}
use borrow.Author.Tests.{eq-eqb, le-leb, lt-leb}
use lib.Dec.{eqb, leb}
use lib.ListN.{length, set}
use lib.Seq.{get_or-set_same}
use Rattle.model.specs.Lists.{any_of, less_first, same}
use Rattle.model.specs.Policy.{Policy, Association, Prohibition, is_element_id, kind_of, is_there, user_of, is_process, is_assigned, has_association, has_prohibition, association_fields, prohibition_fields}
use Rattle.model.specs.Refusal.{end, past}
use Rattle.model.specs.Command.{create_class, command_lines, deassign, delete_element, delete_association, delete_prohibition, end_process, full_of_assignments, full_of_associations, full_of_prohibitions, after}
use Rattle.table.specs.Layout.{kind_word, user_word}
use Rattle.table.specs.View.{policy_of}
use Rattle.table.specs.Facts.{Table}
use Rattle.std.specs.Prelude.{Result, Ok}
use Rattle.answer.specs.declared.Refusal.{Refusal}
use Rattle.table.proofs.Test.{of_table}
use Rattle.table.proofs.ById.{kind_is, user_is}
use Rattle.store.specs.Words.{with_kind, with_user}
use Rattle.store.proofs.Assigned.{assignments_less_table}
use Rattle.table.proofs.Counted.{assignments_long, associations_long, prohibitions_long}
use Rattle.command.specs.Commanded.{words_after, Commanded}
use Rattle.command.proofs.Accepted.{Id, ProcessId, old_assignment, old_element, old_association, old_prohibition, old_process}
use Rattle.command.proofs.Theorems.{done_exact, went, table_stays, length_stays}

-- where some pass, the list less the first that does is shorter by one
less_one : {A : Type 0} (f : A → Bool) (l : List A) → any_of f l ≡ true → suc (length (less_first f l)) ≡ length l
unfolding any_of less_first
less_one f [] e = absurd (let z : ◌≡◌ {A = ℕ} 0 1 = cc in omega arith)
less_one f (a ∷ l) e = go (f a) refl (less_one f l)
  where
    go : (t : Bool) → f a ≡ t → (any_of f l ≡ true → suc (length (less_first f l)) ≡ length l)
        → suc (length (cond (f a) l (a ∷ less_first f l))) ≡ suc (length l)
    go true q h = rw q
    go false q h = rw q (ap suc (h (rw q at e)))

-- an element whose word is set to 0 is not there
kind_gone : {mem : List ℕ} → Table mem → {x : ℕ} → Id x → is_there (policy_of (with_kind x 0 mem)) x ≡ false
unfolding with_kind is_there
kind_gone {mem} t {x} i =
    let w : kind_word (set mem (8 + x) 0) x ≡ 0 = get_or-set_same mem (8 + x) 0 0 (omega (arith, t.size, i.high)) in
    let z : kind_of (policy_of (set mem (8 + x) 0)) x ≡ 0 = sym (kind_is (set mem (8 + x) 0) x i.low i.high (omega arith)) ∙ w in
    rw z

-- nor is a process whose word is set to 0
user_gone : {mem : List ℕ} → Table mem → {i : ℕ} → ProcessId i → is_process (policy_of (with_user i 0 mem)) i ≡ false
unfolding with_user is_process
user_gone {mem} t {i} p =
    let w : user_word (set mem (520 + i) 0) i ≡ 0 = get_or-set_same mem (520 + i) 0 0 (omega (arith, t.size, p.high)) in
    let z : user_of (policy_of (set mem (520 + i) 0)) i ≡ 0 = sym (user_is (set mem (520 + i) 0) i p.low p.high (omega arith)) ∙ w in
    rw z

module _ {mem idx mem' idx' : List ℕ} where
  -- after an accepted delete element the id is free, whatever the policy was
  pub id_free_again : {x : ℕ} → Commanded mem idx (delete_element x) (Ok tt) mem' idx' → is_there (policy_of mem') x ≡ false
  unfolding words_after
  id_free_again {x} k =
      let w = went k ((done_exact k).0 refl) in
      rw w.words (kind_gone (assignments_less_table w.found.table x) (old_element (policy_of mem) w.found.lines))

  -- after an accepted end process so is the process's
  pub process_free_again : {i : ℕ} → Commanded mem idx (end_process i) (Ok tt) mem' idx' → is_process (policy_of mem') i ≡ false
  unfolding words_after
  process_free_again {i} k =
      let w = went k ((done_exact k).0 refl) in
      rw w.words (user_gone w.found.table (old_process (policy_of mem) w.found.lines))

  -- after an accepted deassign there is one assignment less, so that there is room for one
  pub assignment_room_again : {x y : ℕ} → Commanded mem idx (deassign x y) (Ok tt) mem' idx'
      → (suc (length (policy_of mem').assignments) ≡ length (policy_of mem).assignments) × (full_of_assignments (policy_of mem') ≡ false)
  unfolding after is_assigned
  assignment_room_again {x} {y} k =
      let w = went k ((done_exact k).0 refl) in
      let e = old_assignment (policy_of mem) w.found.lines in
      let l = ap (λ (p : Policy). suc (length p.assignments)) w.policy
      ∙ less_one (λ a. eqb x a.child && eqb y a.container) (policy_of mem).assignments e.assigned in
      (l, lt-leb 2000 (length (policy_of mem').assignments) (omega (arith, assignments_long mem, w.found.table.few_assignments)))

  -- after an accepted delete association, one association less
  pub association_room_again : {a : Association} → Commanded mem idx (delete_association a) (Ok tt) mem' idx'
      → (suc (length (policy_of mem').associations) ≡ length (policy_of mem).associations) × (full_of_associations (policy_of mem') ≡ false)
  unfolding after has_association
  association_room_again {a} k =
      let w = went k ((done_exact k).0 refl) in
      let e = old_association (policy_of mem) w.found.lines in
      let l = ap (λ (p : Policy). suc (length p.associations)) w.policy
      ∙ less_one (λ b. same (association_fields a) (association_fields b)) (policy_of mem).associations e.there in
      (l, lt-leb 1000 (length (policy_of mem').associations) (omega (arith, associations_long mem, w.found.table.few_associations)))

  -- after an accepted delete prohibition, one prohibition less
  pub prohibition_room_again : {b : Prohibition} → Commanded mem idx (delete_prohibition b) (Ok tt) mem' idx'
      → (suc (length (policy_of mem').prohibitions) ≡ length (policy_of mem).prohibitions) × (full_of_prohibitions (policy_of mem') ≡ false)
  unfolding after has_prohibition
  prohibition_room_again {b} k =
      let w = went k ((done_exact k).0 refl) in
      let e = old_prohibition (policy_of mem) w.found.lines in
      let l = ap (λ (p : Policy). suc (length p.prohibitions)) w.policy
      ∙ less_one (λ c. same (prohibition_fields b) (prohibition_fields c)) (policy_of mem).prohibitions e.there in
      (l, lt-leb 200 (length (policy_of mem').prohibitions) (omega (arith, prohibitions_long mem, w.found.table.few_prohibitions)))

  -- so a class can be created with the id of a deleted element, on the words and the index that deleting it left
  pub class_again : {x : ℕ} → Commanded mem idx (delete_element x) (Ok tt) mem' idx'
      → {r : Result (Unit {0}) Refusal} {mem'' idx'' : List ℕ} → Commanded mem' idx' (create_class x) r mem'' idx'' → r ≡ Ok tt
  unfolding command_lines is_element_id
  class_again {x} k l =
      let w = went k ((done_exact k).0 refl) in
      let i = old_element (policy_of mem) w.found.lines in
      let size : length idx' ≡ 32768 = length_stays k ∙ w.found.size in
      let right : (not (eqb (length idx') 32768) || not (leb 1 x && leb x 511)) ≡ false =
      rw (eq-eqb (length idx') 32768 size, le-leb 1 x i.low, le-leb x 511 i.high) in
      (done_exact l).1 (past (ap not (table_stays k (of_table w.found.table))) (past right (past (id_free_again k) end)))
