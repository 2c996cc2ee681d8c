-- Rows of the explanation as structs.
-- Assumes nothing.
use Rattle.std.specs.Prelude.{◌≡◌, Result, Ok, Err, List, [], map, ℕ, ◌≤◌, length, get_or, take}
use Rattle.model.specs.Contain.{contained}
use Rattle.model.specs.Request.{Request as Asks}
use Rattle.model.specs.Explain.{explanation}
use Rattle.model.specs.Explain as explain
use Rattle.model.specs.Calls.{Memory, Explaining, kept}
use Rattle.answer.specs.declared.Refusal.{Refusal}
use Rattle.explain.specs.Answers.{told, numbers_of, numbers, explaining}
use Rattle.explain.specs.declared.Explanation.{Explanation}
use Rattle.explain.specs.declared.Explanation.TheVariants.{Grant, Deny}
use Rattle.rows.specs.declared.Row.{Row}

-- the row that eight numbers are, in their order
abbrev pub from_numbers : List ℕ → Row
from_numbers ns =
    record {
      alternative = get_or ns 0 0;
      argument = get_or ns 1 0;
      right = get_or ns 2 0;
      cause = get_or ns 3 0;
      number = get_or ns 4 0;
      attribute = get_or ns 5 0;
      target = get_or ns 6 0;
      rights = get_or ns 7 0;
    }

-- a row of the explanation, as 01 has it
abbrev pub row_of : Row → explain.Row
row_of r =
    record {
      alternative = r.alternative;
      argument = r.argument;
      right = r.right;
      cause = r.cause;
      number = r.number;
      attribute = r.attribute;
      target = r.target;
      rights = r.rights;
    }

-- what the explanation answers and leaves
abbrev pub leaving : Result Explanation Refusal → (rows : List Row) → Explaining
leaving r rows = record { answers = told r; leaves = map row_of rows }

-- how many rows an explanation has
abbrev pub count_of : Explanation → ℕ
count_of (Grant k n) = n
count_of (Deny n) = n

-- how many an answer has
abbrev pub count_in : Result Explanation Refusal → ℕ
count_in (Ok e) = count_of e
count_in (Err x) = 0

-- the answer where so many rows are lent, and the numbers afterwards: those of its rows are in front
pub record Tells (m : Memory) (q : Asks) (room : ℕ) (r : Result Explanation Refusal) (before ns : List (List ℕ)) : Type 0 where
  pub answers : told r ≡ explanation (contained m.policy) m.holds_table room m.policy q
  pub all : ns ≡ (explaining m q before).rows
  pub rows : take (count_in r) ns ≡ kept (told r) (numbers m.policy q) []
  pub few : count_in r ≤ room
  pub many : count_in r ≤ length ns

-- the numbers of lent rows
abbrev pub numbers_in : List Row → List (List ℕ)
numbers_in rs = map numbers_of (map row_of rs)
