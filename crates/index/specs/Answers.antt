-- What the calls of the index answer, in 01's words.
-- Assumes nothing.
use Rattle.std.specs.Prelude.{Bool, Result, List, ℕ}
use Rattle.model.specs.Refusal.{Answer}
use Rattle.model.specs.Calls.{Building}
use Rattle.answer.specs.declared.Refusal.{Refusal}
use Rattle.answer.specs.Answers as answers
use Rattle.table.specs.Answers.{told}

-- what building the index leaves: the call's answer, with the bytes as what it made, and the bytes
abbrev pub left : Result (Unit {0}) Refusal → (index : List ℕ) → Building
left r index = record { answers = told r index; index = index }

-- `Ok`: whether the index is the table's; `Err`: the refusal's number
abbrev pub matched : Result Bool Refusal → Answer Bool
matched r = answers.told (λ b. b) r
