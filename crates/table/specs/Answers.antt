-- What a call that changes the working memory answers, and the words that it leaves.
-- Assumes nothing.
use Rattle.std.specs.Prelude.{Result, List, ℕ, eqb, length}
use Rattle.model.specs.Refusal.{Answer, answer}
use Rattle.model.specs.Command.{new_lines}
use Rattle.model.specs.Calls.{kept}
use Rattle.table.specs.Layout.{word_count}
use Rattle.table.specs.View.{empty_table}
use Rattle.answer.specs.declared.Refusal.{Refusal}
use Rattle.answer.specs.Answers as answers

-- `Ok`: accepted, with what the call made; `Err`: the refusal's number
abbrev pub told : {A : Type 0} → Result (Unit {0}) Refusal → (made : A) → Answer A
told r made = answers.told (λ _. made) r

-- What a call that changes the working memory answers, and the words that it leaves.
pub record Left : Type 0 where
  pub answers : Answer (List ℕ)
  pub words : List ℕ

-- the same of what the code answers and leaves
abbrev pub left : Result (Unit {0}) Refusal → (words : List ℕ) → Left
left r words = record { answers = told r words; words = words }

-- New: "the working memory has another length than the published one" is its only refusal; else every word is the empty table's
unfoldable pub new_table : (words : List ℕ) → Left
new_table words =
    let made = answer (new_lines (eqb (length words) word_count)) empty_table in
    record { answers = made; words = kept made empty_table words }
