-- What the explanation answers and leaves, its rows as numbers.
-- Assumes nothing.
use Rattle.std.specs.Prelude.{Result, List, [], ◌∷◌, map, ℕ, length, ltb}
use Rattle.model.specs.Policy.{Policy}
use Rattle.model.specs.Contain.{contained}
use Rattle.model.specs.Refusal.{◌when◌, Answer, answer}
use Rattle.model.specs.Lists.{one}
use Rattle.model.specs.Request.{Request as Asks, grant, deny, verdict}
use Rattle.model.specs.Explain.{Row, rows, Explained, explanation}
use Rattle.model.specs.Calls.{Memory, kept, over}
use Rattle.answer.specs.declared.Refusal.{Refusal}
use Rattle.answer.specs.Answers as answers
use Rattle.explain.specs.declared.Explanation.{Explanation}
use Rattle.explain.specs.declared.Explanation.TheVariants.{Grant, Deny}

-- `Grant`: granted, by the alternative with this number, with this many rows; `Deny`: denied, with this many rows
unfoldable pub explained_by : Explanation → Explained
explained_by (Grant k n) = record { verdict = grant k; count = n }
explained_by (Deny n) = record { verdict = deny; count = n }

-- `Ok`: what was explained; `Err`: the refusal's number
abbrev pub told : Result Explanation Refusal → Answer Explained
told r = answers.told explained_by r

-- the numbers of a row, in their order
abbrev pub numbers_of : Row → List ℕ
numbers_of r = r.alternative ∷ r.argument ∷ r.right ∷ r.cause ∷ r.number ∷ r.attribute ∷ r.target ∷ r.rights ∷ []

-- The explanation's answer, and the lent rows afterwards.
pub record Left : Type 0 where
  pub answers : Answer Explained
  pub rows : List (List ℕ)

-- the same of what the code answers and leaves
abbrev pub left : Result Explanation Refusal → (rows : List (List ℕ)) → Left
left r rows = record { answers = told r; rows = rows }

-- the rows that a request has, as numbers
unfoldable pub numbers : Policy → Asks → List (List ℕ)
numbers p q = map numbers_of (rows (contained p) p q)

-- the explanation of a request that no line but 10 refuses: "10: .. the lent rows .. are too few"
unfoldable pub explained : Policy → Asks → (room : List (List ℕ)) → Left
explained p q room =
    let told = answer {A = Explained} (one (10 when ltb (length room) (length (rows (contained p) p q)))) (record { verdict = verdict (contained p) p q; count = length (rows (contained p) p q) }) in
    record { answers = told; rows = kept told (over (numbers p q) room) room }

-- the explanation, whole
unfoldable pub explaining : Memory → Asks → (room : List (List ℕ)) → Left
explaining m q room =
    let told = explanation (contained m.policy) m.holds_table (length room) m.policy q in
    record { answers = told; rows = kept told (over (numbers m.policy q) room) room }
