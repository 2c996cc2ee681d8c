-- What the calls of the C face answer: 01's numbers and values in one number.
-- Assumes nothing.
use Rattle.std.specs.Prelude.{◌≡◌, Bool, true, false, List, ℕ, ◌+◌, ◌*◌, ◌≤◌}
use Rattle.model.specs.Refusal.{Answer, refused, accepted}
use Rattle.model.specs.Request.{Request, Verdict, grant, deny}
use Rattle.model.specs.Explain.{Explained}
use Rattle.model.specs.Command.{Command}
use Rattle.model.specs.Calls.{kept, command}
use Rattle.table.specs.View.{memory}
use Rattle.command.specs.Commanded.{words_after}

-- a call that changes something: 0 for accepted, else the refusal number
unfoldable pub code : {A : Type 0} → Answer A → ℕ
code (accepted a) = 0
code (refused n) = n

-- a verdict: 0 for deny, else the alternative that is granted
unfoldable pub verdict_code : Verdict → ℕ
verdict_code (grant k) = k
verdict_code deny = 0

-- a decision: its verdict, or 16 and the refusal number
unfoldable pub decision_code : Answer Verdict → ℕ
decision_code (accepted v) = verdict_code v
decision_code (refused n) = 16 + n

-- a question: 1 for yes, 0 for no, or 16 and the refusal number
unfoldable pub yes_code : Answer Bool → ℕ
yes_code (accepted true) = 1
yes_code (accepted false) = 0
yes_code (refused n) = 16 + n

-- a refusal number is at most 14, as every one of 01's is: what the codes of this file add to it, and multiply it by, cannot overflow
abbrev pub Listed : {A : Type 0} → Answer A → Type 0
Listed a = (n : ℕ) → a ≡ refused n → n ≤ 14

-- the request that five numbers are
abbrev pub requested : (process operation a b c : ℕ) → Request
requested process operation a b c = record { process = process; operation = operation; first = a; second = b; third = c }

-- 2^32: the high half of a number of 64 bits counts so much
abbrev pub high : ℕ
high = 4294967296

-- save: the length, or the refusal number in the high half
unfoldable pub save_code : Answer ℕ → ℕ
save_code (accepted n) = n
save_code (refused n) = n * high

-- what is explained: the verdict's code in the high half and the number of rows in the low half
abbrev pub rows_code : Explained → ℕ
rows_code e = verdict_code e.verdict * high + e.count

-- the explanation: the decision's code in the high half and the number of rows in the low half; a refused one has no rows
unfoldable pub explain_code : Answer Explained → ℕ
explain_code (accepted e) = rows_code e
explain_code (refused n) = (16 + n) * high

-- The command c on the words mem and the index idx, with the code r, the words mem' and the index idx' afterwards: one contract for all eleven.
pub record Coded (mem idx : List ℕ) (c : Command) (r : ℕ) (mem' idx' : List ℕ) : Type 0 where
  -- 0 where the command was done, else the number of the first line that holds
  pub code_is : r ≡ code (command (memory mem) idx c).answers
  -- every word: as they were where the command was refused
  pub words : mem' ≡ kept (command (memory mem) idx c).answers (words_after mem c) mem
  -- every byte of the index: as they were where the command was refused or cannot change containment, else the index of the policy after the command
  pub index : idx' ≡ (command (memory mem) idx c).index
