-- What is known of every result that the contract of a command allows, in the words of 01.
-- Assumes nothing.
use mathlib.Core.Path.{◌≡◌, refl, sym, ap, ◌∙◌}
use mathlib.Core.Bool.{Bool, true, false, cond}
use mathlib.Core.List.{List}
use mathlib.Core.Logic.{◌↔◌}
use Prim.Native.Nat.{ℕ}
use lib.ListN.{length}
use Rattle.model.specs.Sound.{Sound}
use Rattle.model.specs.Refusal.{Line, First, None, answer}
use Rattle.model.specs.Command.{Command, fits, command_lines, command_refusal, after}
use Rattle.model.specs.Index.{index_of}
use Rattle.model.specs.Calls.{kept, lent, changes_containment, command}
use Rattle.model.proofs.Refusals.{Judged, by, clear, judged, first_refused, none_given, none_accepted, refused_first, accepted_none}
use Rattle.model.proofs.Indexed.{index_length}
use Rattle.model.proofs.Commands.Keeps.{after_sound}
use Rattle.model.proofs.Commands.Upkeep as upkeep
use Rattle.table.specs.View.{holds_table, policy_of, memory}
use Rattle.table.specs.Answers.{told}
use Rattle.std.specs.Prelude.{Result, Ok, Err}
use Rattle.answer.specs.declared.Refusal.{Refusal}
use Rattle.answer.specs.Answers as answers
use Rattle.answer.specs.Answers.{IsRefused}
use Rattle.answer.proofs.Told.{refused_told, told_refused}
use Rattle.table.proofs.Outcomes.{one_outcome}
use Rattle.table.proofs.Test.{of_table}
use Rattle.command.specs.Commanded.{words_after, Commanded}
use Rattle.command.proofs.Policies.{holds_after}
use Rattle.command.proofs.Zeros.{Zeros, zeros_after}
use Rattle.command.proofs.Performed.{Accepted, accepted_call}

-- what is in place after a refused call, and after an accepted one
kept_by_line : {n : ℕ} {A B : Type 0} (a : A) (new old : B) {ls : List Line} → First n ls → kept (answer ls a) new old ≡ old
unfolding kept
kept_by_line a new old f = rw (first_refused a f)

kept_by_none : {A B : Type 0} (a : A) (new old : B) {ls : List Line} → None ls → kept (answer ls a) new old ≡ new
unfolding kept
kept_by_none a new old f = rw (none_accepted a f)

-- A refused call: its number, and everything as it was.
record Stayed (mem idx : List ℕ) (n : ℕ) (r : Result (Unit {0}) Refusal) (mem' idx' : List ℕ) : Type 0 where
  outcome : IsRefused r n
  words : mem' ≡ mem
  index : idx' ≡ idx

-- An accepted call: what it found, and what it left.
pub record Went (mem idx : List ℕ) (c : Command) (r : Result (Unit {0}) Refusal) (mem' idx' : List ℕ) : Type 0 where
  pub outcome : r ≡ Ok tt
  pub found : Accepted mem (length idx) c
  pub words : mem' ≡ words_after mem c
  pub policy : policy_of mem' ≡ after (policy_of mem) c
  pub index : idx' ≡ cond (changes_containment c) (index_of (after (policy_of mem) c)) idx

-- A result of a command: the outcome r, the words mem' and the index idx' afterwards.
module _ {mem idx : List ℕ} {c : Command} {r : Result (Unit {0}) Refusal} {mem' idx' : List ℕ} (k : Commanded mem idx c r mem' idx') where
  -- the answer, by the lines of the call
  by_lines : told r (policy_of mem') ≡ answer (command_lines (lent (memory mem) idx) (policy_of mem) c) (after (policy_of mem) c)
  unfolding command
  by_lines = k.answers

  -- a line holds: it was refused
  stayed : {n : ℕ} → First n (command_lines (lent (memory mem) idx) (policy_of mem) c) → Stayed mem idx n r mem' idx'
  unfolding command answers.told
  stayed {n} f = record {
    outcome = refused_told (λ _. policy_of mem') r (by_lines ∙ first_refused (after (policy_of mem) c) f);
    words = k.words ∙ kept_by_line (after (policy_of mem) c) (words_after mem c) mem f;
    index = k.index ∙ kept_by_line (after (policy_of mem) c) (cond (changes_containment c) (index_of (after (policy_of mem) c)) idx) idx f;
  }

  -- no line holds: it was done
  pub went : None (command_lines (lent (memory mem) idx) (policy_of mem) c) → Went mem idx c r mem' idx'
  unfolding command answers.told
  went f =
      let a = accepted_call {mem = mem} f in
      let w = k.words ∙ kept_by_none (after (policy_of mem) c) (words_after mem c) mem f in
      record {
        outcome = one_outcome r (Ok tt) (policy_of mem') (after (policy_of mem) c) (by_lines ∙ none_accepted (after (policy_of mem) c) f);
        found = a;
        words = w;
        policy = ap policy_of w ∙ (holds_after a.table c a.lines).policy;
        index = k.index ∙ kept_by_none (after (policy_of mem) c) (cond (changes_containment c) (index_of (after (policy_of mem) c)) idx) idx f;
      }

  -- "each is given exactly when its line holds and none before it does"
  pub refusals_exact : (n : ℕ) → IsRefused r n ↔ First n (command_lines (lent (memory mem) idx) (policy_of mem) c)
  unfolding answers.told
  refusals_exact n = (
    λ h. refused_first (after (policy_of mem) c) (command_lines (lent (memory mem) idx) (policy_of mem) c)
        (sym by_lines ∙ told_refused (λ _. policy_of mem') h),
    λ f. (stayed f).outcome,
  )

  -- and the command is done exactly where no line holds
  pub done_exact : (r ≡ Ok tt) ↔ None (command_lines (lent (memory mem) idx) (policy_of mem) c)
  unfolding answers.told
  done_exact = (
    λ h. (accepted_none (after (policy_of mem) c) (command_lines (lent (memory mem) idx) (policy_of mem) c)
        (sym by_lines ∙ ap (λ s. told s (policy_of mem')) h)).0,
    λ f. (went f).outcome,
  )

  -- "A refused call .. writes nothing."
  pub refused_leaves_all : {x : Refusal} → r ≡ Err x → (mem' ≡ mem) × (idx' ≡ idx)
  refused_leaves_all {x} h = let s = stayed ((refusals_exact (answers.number_of x)).0 (record { why = x; is = h; its_number = refl })) in (s.words, s.index)

  -- the policy afterwards is the one that the whole call leaves, refused or not
  pub policy_after : policy_of mem' ≡ (command (memory mem) idx c).table
  unfolding command
  policy_after = go (judged (command_lines (lent (memory mem) idx) (policy_of mem) c))
    where
      go : Judged (command_lines (lent (memory mem) idx) (policy_of mem) c) → policy_of mem' ≡ (command (memory mem) idx c).table
      go (by f) = ap policy_of (stayed f).words ∙ sym (kept_by_line (after (policy_of mem) c) (after (policy_of mem) c) (policy_of mem) f)
      go (clear f) = (went f).policy ∙ sym (kept_by_none (after (policy_of mem) c) (after (policy_of mem) c) (policy_of mem) f)

  -- memory that holds a table holds one afterwards
  pub table_stays : holds_table mem ≡ true → holds_table mem' ≡ true
  table_stays h = go (judged (command_lines (lent (memory mem) idx) (policy_of mem) c))
    where
      go : Judged (command_lines (lent (memory mem) idx) (policy_of mem) c) → holds_table mem' ≡ true
      go (by f) = rw (stayed f).words h
      go (clear f) = let w = went f in rw w.words (of_table (holds_after w.found.table c w.found.lines).table)

  -- words behind the groups that are 0 stay 0
  pub clear_stays : Zeros mem → Zeros mem'
  clear_stays z = go (judged (command_lines (lent (memory mem) idx) (policy_of mem) c))
    where
      go : Judged (command_lines (lent (memory mem) idx) (policy_of mem) c) → Zeros mem'
      go (by f) = rw (stayed f).words z
      go (clear f) = let w = went f in rw w.words (zeros_after w.found.table c w.found.lines z)

  -- a sound policy stays sound
  pub sound_stays : fits c ≡ true → Sound (policy_of mem) → Sound (policy_of mem')
  unfolding command_refusal
  sound_stays h s = go (judged (command_lines (lent (memory mem) idx) (policy_of mem) c))
    where
      go : Judged (command_lines (lent (memory mem) idx) (policy_of mem) c) → Sound (policy_of mem')
      go (by f) = rw (stayed f).words s
      go (clear f) = let w = went f in rw w.policy (after_sound (policy_of mem) s c h (none_given w.found.lines))

  -- "leaves both up to date": an index that is the table's is the table's afterwards, refused or not
  pub index_kept : idx ≡ index_of (policy_of mem) → idx' ≡ index_of (policy_of mem')
  index_kept e = k.index ∙ upkeep.index_kept (memory mem) idx c e ∙ ap index_of (sym policy_after)

  -- a command that can change containment, once done, leaves the table's index whatever bytes it was lent
  pub index_repaired : r ≡ Ok tt → changes_containment c ≡ true → idx' ≡ index_of (policy_of mem')
  index_repaired h e =
      let w = went (done_exact.0 h) in
      w.index ∙ ap (λ t. cond t (index_of (after (policy_of mem) c)) idx) e ∙ ap index_of (sym w.policy)

  -- the index has as many bytes as before
  pub length_stays : length idx' ≡ length idx
  length_stays = go (judged (command_lines (lent (memory mem) idx) (policy_of mem) c))
    where
      as_long : (t : Bool) → length idx ≡ 32768 → length (cond t (index_of (after (policy_of mem) c)) idx) ≡ length idx
      as_long true e = index_length (after (policy_of mem) c) ∙ sym e
      as_long false e = refl

      go : Judged (command_lines (lent (memory mem) idx) (policy_of mem) c) → length idx' ≡ length idx
      go (by f) = ap length (stayed f).index
      go (clear f) = let w = went f in ap length w.index ∙ as_long (changes_containment c) w.found.size

-- two calls on the same words, with indexes of the same length: the same outcome and the same words afterwards, whatever the bytes
pub index_blind : {mem i j : List ℕ} {c : Command} {r s : Result (Unit {0}) Refusal} {mem' i' mem'' j' : List ℕ} → length i ≡ length j
    → Commanded mem i c r mem' i' → Commanded mem j c s mem'' j' → (r ≡ s) × (mem' ≡ mem'')
index_blind {mem} {i} {j} {c} {r} {s} {mem'} {i'} {mem''} e k l =
    let a = (upkeep.index_blind (memory mem) i j c e).0 in (
      one_outcome r s (policy_of mem') (policy_of mem'') (k.answers ∙ a ∙ sym l.answers),
      k.words ∙ ap (λ t. kept t (words_after mem c) mem) a ∙ sym l.words,
    )

-- the contract allows one result: one outcome, every word, every byte
pub unique : {mem idx : List ℕ} {c : Command} {r s : Result (Unit {0}) Refusal} {mem' idx' mem'' idx'' : List ℕ}
    → Commanded mem idx c r mem' idx' → Commanded mem idx c s mem'' idx'' → (r ≡ s) × (mem' ≡ mem'') × (idx' ≡ idx'')
unique {r = r} {s = s} {mem' = mem'} {mem'' = mem''} k l =
    (one_outcome r s (policy_of mem') (policy_of mem'') (k.answers ∙ sym l.answers), k.words ∙ sym l.words, k.index ∙ sym l.index)
