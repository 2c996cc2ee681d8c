-- No call on memory that holds a table is refused with 1.
-- Assumes nothing.
use mathlib.Core.Path.{◌≡◌, refl}
use mathlib.Core.Bool.{Bool, true, not, ◌&&◌}
use mathlib.Core.List.{List, ◌∷◌}
use Prim.Native.Nat.{ℕ}
use borrow.Author.Tests.{eq-eqb}
use lib.Dec.{eqb}
use lib.ListN.{length}
use Rattle.model.specs.Lists.{all_of}
use Rattle.model.specs.Policy.{Policy}
use Rattle.model.specs.Refusal.{Line, First, now, next, refused, answer}
use Rattle.model.specs.Request.{decision, indexed_decision}
use Rattle.model.specs.Explain.{explanation}
use Rattle.model.specs.Command.{Command, create_class, create_element, assign, deassign, delete_element, create_association, delete_association, create_prohibition, delete_prohibition, start_process, end_process, command_lines}
use Rattle.model.specs.Calls.{contains, decide, decide_indexed, explain, new, load, save, build, is_index, command}
use Rattle.model.proofs.Truth.{clash, and_left, and_right}
use Rattle.model.proofs.Refusals.{refused_first}
use Rattle.table.specs.Layout.{word_count}
use Rattle.table.specs.View.{holds_table}
use Rattle.table.proofs.Test.{table_of_lem}
use Rattle.history.specs.Standing.{NeverOne}

-- the line does not both have the number 1 and hold
abbrev pub not_one : Line → Bool
not_one l = not (eqb l.number 1 && l.holds)

-- where that is so of each line, line 1 is not the first that holds
first_not_one : {ls : List Line} → all_of not_one ls ≡ true → First 1 ls → ⊥
unfolding all_of
first_not_one {ls = l ∷ ls} e (now q h) = clash (rw (q, h) at (and_left (not_one l) (all_of not_one ls) e)) refl
first_not_one {ls = l ∷ ls} e (next h f) = first_not_one (and_right (not_one l) (all_of not_one ls) e) f
first_not_one {ls = mathlib.Core.List.[]} e never = elim never [ ]

-- and the call is not refused with 1
pub answer_not_one : {A : Type 0} (a : A) (ls : List Line) → all_of not_one ls ≡ true → answer ls a ≡ refused 1 → ⊥
answer_not_one a ls t e = first_not_one t (refused_first a ls e)

-- it is so of the lines of every command that finds a table
command_lines_lem : (p : Policy) (n : ℕ) (c : Command) → all_of not_one (command_lines (record { holds_table = true; index = n }) p c) ≡ true
unfolding command_lines all_of
command_lines_lem p n (create_class x) = refl
command_lines_lem p n (create_element x k y) = refl
command_lines_lem p n (assign x y) = refl
command_lines_lem p n (deassign x y) = refl
command_lines_lem p n (delete_element x) = refl
command_lines_lem p n (create_association a) = refl
command_lines_lem p n (delete_association a) = refl
command_lines_lem p n (create_prohibition b) = refl
command_lines_lem p n (delete_prohibition b) = refl
command_lines_lem p n (start_process i u) = refl
command_lines_lem p n (end_process i) = refl

-- Of new and load, line 1 is the length alone.
module _ (words : List ℕ) (t : holds_table words ≡ true) (old : Policy) where
  fits : eqb (length words) word_count ≡ true
  fits = eq-eqb (length words) word_count (table_of_lem words t).size

  new_never_one : (new (eqb (length words) word_count) old).answers ≡ refused 1 → ⊥
  unfolding new all_of
  new_never_one e = answer_not_one _ _ (rw fits refl) e

  load_never_one : (image : List ℕ) → (load (eqb (length words) word_count) image old).answers ≡ refused 1 → ⊥
  unfolding load all_of
  load_never_one image e = answer_not_one _ _ (rw fits refl) e

-- memory that holds a table is never refused with 1
pub table_never_one : (words : List ℕ) → holds_table words ≡ true → NeverOne words
unfolding contains decide decide_indexed explain save build is_index command decision indexed_decision explanation all_of
table_never_one words t = record {
  new = λ old e. new_never_one words t old e;
  load = λ image old e. load_never_one words t old image e;
  contains = λ x y e. answer_not_one _ _ (rw t refl) e;
  decide = λ q e. answer_not_one _ _ (rw t refl) e;
  decide_indexed_lem = λ bytes q e. answer_not_one _ _ (rw t refl) e;
  explain = λ q room e. answer_not_one _ _ (rw t refl) e;
  save = λ room e. answer_not_one _ _ (rw t refl) e;
  build = λ bytes e. answer_not_one _ _ (rw t refl) e;
  is_index_lem = λ bytes e. answer_not_one _ _ (rw t refl) e;
  command = λ bytes c e. answer_not_one _ _ (rw t (command_lines_lem _ (length bytes) c)) e;
}
