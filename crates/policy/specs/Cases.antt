-- 01, "The small house": what the public calls must answer in the cases K1 to K12, the table `House.cases`. The theorem `small_house` of
-- proofs/Theorems.antt is of type `SmallHouse`.
-- Assumes nothing.
use Rattle.std.specs.Prelude.{◌≡◌, Result, Ok, true, List, ◌∷◌, ℕ, ◌≤◌, length, get_or}
use Rattle.model.specs.Lists.{In}
use Rattle.model.specs.Request.{Request as Asks}
use Rattle.model.specs.Index.{index_of}
use Rattle.model.specs.House.{house, Question, Outcome as Expected, Case, a_request, a_command, grants, denies, refuses, accepts, cases}
use Rattle.table.specs.View.{holds_table, policy_of}
use Rattle.answer.specs.declared.Refusal.{Refusal}
use Rattle.answer.specs.Answers.{IsRefused}
use Rattle.request.specs.declared.Request.{Request}
use Rattle.decide.specs.declared.Decision.{Decision}
use Rattle.decide.specs.declared.Decision.TheVariants as decision
use Rattle.explain.specs.declared.Explanation.{Explanation}
use Rattle.explain.specs.declared.Explanation.TheVariants as explanation
use Rattle.rows.specs.declared.Row.{Row}
use Rattle.history.specs.Steps.{Step, Run, commands_of, Ran}
use Rattle.policy.specs.Allows as allows

-- What is expected in a case, as the result of each call: of a decision
unfoldable pub Decides : Expected → Result Decision Refusal → Type 0
Decides (grants k) r = r ≡ Ok (decision.Grant k)
Decides (denies cause number) r = r ≡ Ok decision.Deny
Decides (refuses n) r = IsRefused r n
Decides accepts r = ⊥

-- the first of the rows has this cause and this number
pub record FirstRow {R : Type 0} (cause_at number_at : R → ℕ) (rows : List R) (cause number : ℕ) : Type 0 where
  pub row : R
  pub others : List R
  pub first : rows ≡ row ∷ others
  pub its_cause : cause_at row ≡ cause
  pub its_number : number_at row ≡ number

-- of an explanation, with the rows that it leaves: of a deny the first row tells the cause and the number
unfoldable pub Explains : {R : Type 0} (cause_at number_at : R → ℕ) → Expected → Result Explanation Refusal → (rows : List R) → Type 0
Explains cause_at number_at (grants k) r rows = (n : ℕ) × (r ≡ Ok (explanation.Grant k n))
Explains cause_at number_at (denies cause number) r rows = ((n : ℕ) × (r ≡ Ok (explanation.Deny n))) × FirstRow cause_at number_at rows cause number
Explains cause_at number_at (refuses n) r rows = IsRefused r n
Explains cause_at number_at accepts r rows = ⊥

-- of a command
unfoldable pub Commands : Expected → Result (Unit {0}) Refusal → Type 0
Commands (grants k) r = ⊥
Commands (denies cause number) r = ⊥
Commands (refuses n) r = IsRefused r n
Commands accepts r = r ≡ Ok tt

-- the cause and the number of a row: of eight numbers
abbrev pub cause_in : List ℕ → ℕ
cause_in row = get_or row 3 0

abbrev pub number_in : List ℕ → ℕ
number_in row = get_or row 4 0

-- of a struct
abbrev pub cause_of : Row → ℕ
cause_of row = row.cause

abbrev pub number_of : Row → ℕ
number_of row = row.number

-- the request as the calls take it
abbrev pub struct_of : Asks → Request
struct_of q = record { process = q.process; operation = q.operation; first = q.first; second = q.second; third = q.third }

-- The request put to each of the four calls that take one, on these words and these bytes: every result that the call's contract allows is what
-- is expected. Two lent rows are enough.
pub record RequestAnswered (q : Request) (o : Expected) (words bytes : List ℕ) : Type 0 where
  pub decide : (r : Result Decision Refusal) → allows.decide words q r → Decides o r
  pub decide_indexed : (r : Result Decision Refusal) → allows.decide_indexed words bytes q r → Decides o r
  pub explain_numbers : (rows rows' : List (List ℕ)) (r : Result Explanation Refusal) → 2 ≤ length rows → allows.explain_numbers words q rows r rows'
      → Explains cause_in number_in o r rows'
  pub explain : (rows rows' : List Row) (r : Result Explanation Refusal) → 2 ≤ length rows → allows.explain words q rows r rows'
      → Explains cause_of number_of o r rows'

-- The question of a case, a request or a command, put to the calls that take it: every result that their contracts allow is what is expected.
unfoldable pub Answered : Question → Expected → (words bytes : List ℕ) → Type 0
Answered (a_request q) o words bytes = RequestAnswered (struct_of q) o words bytes
Answered (a_command c) o words bytes =
    (r : Result (Unit {0}) Refusal) (words' bytes' : List ℕ) → allows.command words bytes c r words' bytes' → Commands o r

-- small_house. K1 to K12 as one table under one statement.
pub record SmallHouse : Type 0 where
  -- on any words that hold the small house, with its index, after any run of the commands that come first in the case
  pub answered : (mem : List ℕ) → holds_table mem ≡ true → policy_of mem ≡ house → (k : Case) → In k cases
      → (steps : List Step) (words bytes : List ℕ) → Run mem (index_of house) steps words bytes → commands_of steps ≡ k.given
      → Answered k.question k.outcome words bytes
  -- there are such words
  pub mem : List ℕ
  pub table : holds_table mem ≡ true
  pub policy : policy_of mem ≡ house
  -- and such a run of each case's commands
  pub runs : (words bytes : List ℕ) (k : Case) → In k cases → Ran words bytes k.given
