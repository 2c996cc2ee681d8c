-- From the contract of a public call to that of its C face.
-- Assumes nothing.
use mathlib.Core.Path.{◌≡◌, refl, ap, ◌∙◌}
use mathlib.Core.Bool.{Bool}
use mathlib.Core.List.{List}
use Prim.Native.Nat.{ℕ}
use Rattle.model.specs.Refusal.{Answer}
use Rattle.model.specs.Request.{Verdict}
use Rattle.model.specs.Command.{Command}
use Rattle.model.specs.Calls.{Building, Saving}
use Rattle.table.specs.View.{policy_of}
use Rattle.table.specs.Answers.{told, Left, left}
use Rattle.std.specs.Prelude.{Result, Ok, Err}
use Rattle.answer.specs.declared.Refusal.{Refusal}
use Rattle.answer.specs.Answers as answers
use Rattle.command.specs.Commanded.{Commanded}
use Rattle.index.specs.Answers.{left as left_index}
use Rattle.image.specs.Answers.{saved, left as left_bytes}
use Rattle.explain.specs.Answers.{told as told_explained, Left as LeftRows, left as left_rows}
use Rattle.explain.specs.declared.Explanation.{Explanation}
use Rattle.exports.specs.Codes.{code, decision_code, yes_code, save_code, explain_code, Coded}

-- the code of an outcome does not depend on what the call made
pub code_told : {A B : Type 0} (r : Result (Unit {0}) Refusal) (a : A) (b : B) → code (told r a) ≡ code (told r b)
unfolding code answers.told
code_told (Ok x) a b = refl
code_told (Err x) a b = refl

-- what a command does, with its outcome as a number: one law for all eleven
pub coded : {mem idx : List ℕ} {c : Command} {r : Result (Unit {0}) Refusal} {mem' idx' : List ℕ} {n : ℕ}
    → Commanded mem idx c r mem' idx' → n ≡ code (told r r) → Coded mem idx c n mem' idx'
coded {r = r} {mem' = mem'} k e = record {
  code_is = e ∙ code_told r r (policy_of mem') ∙ ap code k.answers;
  words = k.words;
  index = k.index;
}

-- a call that changes the working memory
module _ (r : Result (Unit {0}) Refusal) {l : List ℕ} {t : Left} (k : left r l ≡ t) where
  -- the code of its outcome is the code of what it is to answer
  pub words_code : {n : ℕ} → n ≡ code (told r r) → n ≡ code t.answers
  words_code e = e ∙ code_told r r l ∙ ap (λ (b : Left). code b.answers) k

  -- the words are those that it is to leave
  pub words_left : l ≡ t.words
  words_left = ap (λ (b : Left). b.words) k

-- building the index
module _ (r : Result (Unit {0}) Refusal) {l : List ℕ} {t : Building} (k : left_index r l ≡ t) where
  -- the code of its outcome is the code of what it is to answer
  pub index_code : {n : ℕ} → n ≡ code (told r r) → n ≡ code t.answers
  index_code e = e ∙ code_told r r l ∙ ap (λ (b : Building). code b.answers) k

  -- the bytes are those that it is to leave
  pub index_left : l ≡ t.index
  index_left = ap (λ (b : Building). b.index) k

-- a save
module _ (r : Result ℕ Refusal) {l : List ℕ} {t : Saving} (k : left_bytes r l ≡ t) where
  -- the code of what was told is the code of what it is to answer
  pub bytes_code : {n : ℕ} → n ≡ save_code (saved r) → n ≡ save_code t.answers
  bytes_code e = e ∙ ap (λ (b : Saving). save_code b.answers) k

  -- the bytes are those that it is to leave
  pub bytes_left : l ≡ t.leaves
  bytes_left = ap (λ (b : Saving). b.leaves) k

-- an explanation
module _ (r : Result Explanation Refusal) {l : List (List ℕ)} {t : LeftRows} (k : left_rows r l ≡ t) where
  -- the code of what was told is the code of what it is to answer
  pub rows_code : {n : ℕ} → n ≡ explain_code (told_explained r) → n ≡ explain_code t.answers
  rows_code e = e ∙ ap (λ (b : LeftRows). explain_code b.answers) k

  -- the rows are those that it is to leave
  pub rows_left : l ≡ t.rows
  rows_left = ap (λ (b : LeftRows). b.rows) k

-- a question: the code of what was told is the code of what the call is to answer
pub asked_code : {a b : Answer Bool} {n : ℕ} → a ≡ b → n ≡ yes_code a → n ≡ yes_code b
asked_code k e = e ∙ ap yes_code k

-- the same of a decision
pub decided_code : {a b : Answer Verdict} {n : ℕ} → a ≡ b → n ≡ decision_code a → n ≡ decision_code b
decided_code k e = e ∙ ap decision_code k
