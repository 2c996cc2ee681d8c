-- A command leaves the table and the index up to date, and neither its answer nor the table it leaves depends on the index's bytes.
-- Assumes nothing.
use mathlib.Core.Path.{◌≡◌, refl}
use mathlib.Core.Bool.{true, cond}
use mathlib.Core.List.{List}
use Prim.Native.Nat.{ℕ}
use borrow.Author.Tests.{ne_eqb}
use lib.Dec.{eqb}
use lib.ListN.{length}
use Rattle.model.specs.Policy.{Policy, kind_of, is_there}
use Rattle.model.specs.Refusal.{Answer, refused, accepted, refusal, answer, proper}
use Rattle.model.specs.Command.{Command, create_class, create_element, assign, deassign, delete_element, create_association, delete_association, create_prohibition, delete_prohibition, start_process, end_process, command_lines, command_refusal, after, step}
use Rattle.model.specs.Index.{index_bit, index_byte, index_of}
use Rattle.model.specs.Calls.{Memory, kept, changes_containment, command}
use Rattle.model.proofs.Refusals.{Judged, by, clear, judged, first_given, none_given, first_refused, none_accepted, first_not_0}
use Rattle.model.proofs.Commands.Lines.{commands_numbered}

-- what the index says depends on the elements and the assignments alone
pub index_after : (p : Policy) (c : Command) (index : List ℕ) → index ≡ index_of p → cond (changes_containment c) (index_of (after p c)) index ≡ index_of (after p c)
unfolding changes_containment after index_of index_byte index_bit is_there kind_of
index_after p (create_class x) index e = refl
index_after p (create_element x k y) index e = refl
index_after p (assign x y) index e = refl
index_after p (deassign x y) index e = refl
index_after p (delete_element x) index e = refl
index_after p (create_association a) index e = e
index_after p (delete_association a) index e = e
index_after p (create_prohibition b) index e = e
index_after p (delete_prohibition b) index e = e
index_after p (start_process i u) index e = e
index_after p (end_process i) index e = e

-- "leaves both up to date": an index that is the table's is the table's after any command, refused or not
pub index_kept : (m : Memory) (index : List ℕ) (c : Command) → index ≡ index_of m.policy → (command m index c).index ≡ index_of (command m index c).table
unfolding command kept
index_kept m index c e = go (command m index c).answers
  where
    go : {A : Type 0} (told : Answer A)
        → kept told (cond (changes_containment c) (index_of (after m.policy c)) index) index ≡ index_of (kept told (after m.policy c) m.policy)
    go (refused n) = e
    go (accepted a) = index_after m.policy c index e

-- two indexes of one length: the same answer, the same table
pub index_blind : (m : Memory) (i j : List ℕ) (c : Command) → length i ≡ length j
    → ((command m i c).answers ≡ (command m j c).answers) × ((command m i c).table ≡ (command m j c).table)
unfolding command
index_blind m i j c e = (rw e, rw e)

-- a call that finds a table and an index of 32,768 bytes takes one step of a run
pub command_steps : (p : Policy) (index : List ℕ) (c : Command) → length index ≡ 32768 → (command (record { holds_table = true; policy = p }) index c).table ≡ step p c
unfolding command kept step command_refusal
command_steps p index c e = rw e (go (judged (command_lines proper p c)))
  where
    go : Judged (command_lines proper p c)
        → kept (answer (command_lines proper p c) (after p c)) (after p c) p ≡ cond (eqb (refusal (command_lines proper p c)) 0) (after p c) p
    go (by {n = n} f) =
        let ne : n ≡ 0 → ⊥ = λ q. first_not_0 (commands_numbered proper p c) (rw q at f) in
        rw (first_refused (after p c) f, first_given f, ne_eqb n 0 ne)
    go (clear f) = rw (none_accepted (after p c) f, none_given f)
