-- What a command answers and leaves: one contract for all eleven.
-- Assumes nothing.
use Rattle.std.specs.Prelude.{◌≡◌, Result, List, ℕ}
use Rattle.model.specs.Policy.{class}
use Rattle.model.specs.Command.{Command, create_class, create_element, assign, deassign, delete_element, create_association, delete_association, create_prohibition, delete_prohibition, start_process, end_process}
use Rattle.model.specs.Calls.{kept, command}
use Rattle.table.specs.View.{policy_of, memory}
use Rattle.table.specs.Answers.{told}
use Rattle.answer.specs.declared.Refusal.{Refusal}
use Rattle.store.specs.Words.{with_kind, with_user, with_assignment, without_assignment, without_assignments_of, with_association, without_association}
use Rattle.store.specs.ProhibitionWords.{with_prohibition, without_prohibition}

-- the words after an accepted command
unfoldable pub words_after : List ℕ → Command → List ℕ
words_after mem (create_class x) = with_kind x class mem
words_after mem (create_element x k y) = with_assignment x y (with_kind x k mem)
words_after mem (assign x y) = with_assignment x y mem
words_after mem (deassign x y) = without_assignment x y mem
words_after mem (delete_element x) = with_kind x 0 (without_assignments_of x mem)
words_after mem (create_association a) = with_association a mem
words_after mem (delete_association a) = without_association a mem
words_after mem (create_prohibition b) = with_prohibition b mem
words_after mem (delete_prohibition b) = without_prohibition b mem
words_after mem (start_process i u) = with_user i u mem
words_after mem (end_process i) = with_user i 0 mem

-- The command c on the words mem and the index idx, with the result r, the words mem' and the index idx' afterwards.
pub record Commanded (mem idx : List ℕ) (c : Command) (r : Result (Unit {0}) Refusal) (mem' idx' : List ℕ) : Type 0 where
  -- the answer: the number of the first line that holds; where none does, done, and the policy is the one after the command
  pub answers : told r (policy_of mem') ≡ (command (memory mem) idx c).answers
  -- every word: as they were where the command was refused
  pub words : mem' ≡ kept (command (memory mem) idx c).answers (words_after mem c) mem
  -- every byte of the index: as they were where the command was refused or cannot change containment, else the index of the policy after the command
  pub index : idx' ≡ (command (memory mem) idx c).index
