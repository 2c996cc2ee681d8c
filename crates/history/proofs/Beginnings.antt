-- The first state of a run: the table that new or load made, with its index built.
-- Assumes nothing.
use mathlib.Core.Path.{◌≡◌, refl, sym, ap, subst}
use mathlib.Core.Bool.{true, not}
use mathlib.Core.List.{List}
use Prim.Native.Nat.{ℕ}
use borrow.Author.Tests.{eq-eqb}
use lib.Dec.{eqb}
use lib.ListN.{length}
use Rattle.model.specs.Policy.{Policy, empty_policy}
use Rattle.model.specs.Sound.{Sound}
use Rattle.model.specs.Refusal.{past, accepted, answer}
use Rattle.model.specs.Command.{new_lines}
use Rattle.model.specs.Image.{policy_in, image_lines, load_lines, read_image}
use Rattle.model.specs.Index.{index_of, index_lines}
use Rattle.model.specs.Calls.{Building, kept, lent, build}
use Rattle.model.proofs.Refusals.{none_accepted, accepted_none}
use Rattle.model.proofs.Indexed.{index_length}
use Rattle.model.proofs.Commands.Runs.{empty_sound}
use Rattle.table.specs.Layout.{word_count}
use Rattle.table.specs.View.{holds_table, policy_of, memory, empty_table}
use Rattle.table.specs.Answers.{Left, left, new_table}
use Rattle.std.specs.Prelude.{Ok}
use Rattle.answer.specs.Answers as answers
use Rattle.table.proofs.Test.{of_table}
use Rattle.table.proofs.Empty.{empty_table_lem, empty_policy_lem}
use Rattle.index.proofs.Answered.{build_done}
use Rattle.unpack.specs.Words.{table_of}
use Rattle.image.specs.Answers.{load_table}
use Rattle.image.proofs.Theorems.{load_table_lem, load_policy, load_sound}
use Rattle.history.specs.Steps.{New, Begun, new, loaded, Built}

-- What stays true along a run: the words hold a table, its policy is sound, and the bytes are its index.
pub record Kept (words bytes : List ℕ) : Type 0 where
  pub table : holds_table words ≡ true
  pub sound : Sound (policy_of words)
  pub index : bytes ≡ index_of (policy_of words)

-- a table that new or load made, with the policy that it starts with
pub record Started (start : Policy) (words : List ℕ) : Type 0 where
  pub table : holds_table words ≡ true
  pub policy : policy_of words ≡ start
  pub sound : Sound start

-- an accepted call of new leaves the empty table
pub new_words : {words : List ℕ} → New words → words ≡ empty_table
unfolding answers.told new_table
new_words n = (accepted_none empty_table (new_lines (eqb (length n.before) word_count)) (sym (ap (λ (l : Left). l.answers) n.call))).1

-- what each beginning is
pub started : {start : Policy} {words : List ℕ} → Begun start words → Started start words
started (new {words = words} n) =
    let e = new_words n in
    record { table = rw e (of_table empty_table_lem); policy = rw e empty_policy_lem; sound = empty_sound }
started (loaded {image = image} {words = words} n) =
    let p = load_policy image n.before (Ok tt) words n.call refl in
    record {
      table = load_table_lem image n.before (Ok tt) words n.call refl;
      policy = p;
      sound = subst Sound p (load_sound image n.before (Ok tt) words n.call refl);
    }

-- an accepted call of build leaves the index of the table's policy
pub built_index : {words bytes : List ℕ} → Built words bytes → bytes ≡ index_of (policy_of words)
unfolding answers.told build
built_index {words} n =
    (accepted_none (index_of (policy_of words)) (index_lines (lent (memory words) n.before)) (sym (ap (λ (b : Building). b.answers) n.call))).1

-- so the first state is as it must be
pub begun_kept : {start : Policy} {words bytes : List ℕ} → Begun start words → Built words bytes → Kept words bytes
begun_kept b i =
    let s = started b in
    record { table = s.table; sound = subst Sound (sym s.policy) s.sound; index = built_index i }

-- And there are such beginnings: a new table, the table of any image that is read as a policy, and build on any table.
pub can_begin : Begun empty_policy empty_table
unfolding answers.told new_table answer kept
can_begin = new {words = empty_table} (record { before = empty_table; call = rw (eq-eqb (length empty_table) word_count empty_table_lem.size) refl })

pub can_build : (words : List ℕ) → holds_table words ≡ true → Built words (index_of (policy_of words))
can_build words t = record {
  before = index_of (policy_of words);
  call = build_done words (index_of (policy_of words)) {r = holds_table words} refl (rw t refl) (index_length (policy_of words)) refl;
}

-- load of any image that is read as a policy, into any memory of the published length
pub can_load : (image : List ℕ) {p : Policy} → read_image image ≡ accepted p → (before : List ℕ) → length before ≡ word_count
    → Begun (policy_in image) (table_of (policy_in image))
unfolding read_image load_table answers.told kept
can_load image h before e = loaded {image = image} {words = table_of (policy_in image)} (record {
  before = before;
  call =
      let n = (accepted_none (policy_in image) (image_lines image) h).0 in
      rw (none_accepted (table_of (policy_in image)) {ls = load_lines (eqb (length before) word_count) image} (past (ap not (eq-eqb (length before) word_count e)) n));
})

-- new on any memory of the published length
pub can_new : (before : List ℕ) → length before ≡ word_count → left (Ok tt) empty_table ≡ new_table before
unfolding answers.told new_table answer kept
can_new before e = rw (eq-eqb (length before) word_count e) refl
