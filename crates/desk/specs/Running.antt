-- Runs of calls over an input: what is at hand at a call, the lines that calls of `answer` and `answer_all` print one after another, and the whole output.
-- Assumes nothing.
use Rattle.std.specs.Prelude.{◌≡◌, Result, Ok, Bool, true, List, [], ◌++◌, ◌⊎◌, ℕ, ◌%◌, eqb, leb, length, take, drop}
use Rattle.model.specs.Desk.{desk, requests_of}
use Rattle.table.specs.View.{holds_table, policy_of}
use Rattle.answer.specs.declared.Refusal.{Refusal}
use Rattle.desk.specs.declared.Opened.{Opened}
use Rattle.desk.specs.declared.Opened.TheVariants.{Open, Closed}
use Rattle.desk.specs.Allows as allows

-- What a call is lent of the bytes s: the bytes at hand, which are the first of s, with `more` behind them. They suffice for the call, or nothing is
-- behind them.
pub record AtHand (suffice : Bool) (hand more s : List ℕ) : Type 0 where
  pub parts : s ≡ hand ++ more
  pub enough : (suffice ≡ true) ⊎ (more ≡ [])

-- The text that calls of `answer` and `answer_all` print over the bytes s, one call after another on the same words, in any order and with any room;
-- each result one that the contract allows. `answer` is lent a request of five bytes or more, or what is left, and the next call goes on behind five bytes;
-- `answer_all` is lent a piece of whole requests, or what is left, and the next call goes on behind the piece.
pub data Lines (words : List ℕ) : (s text : List ℕ) → Type 0 where
  none : Lines words [] []
  then : {hand more s : List ℕ} → AtHand (leb 5 (length hand)) hand more s
      → (room bytes : List ℕ) (n : ℕ) → allows.answer words hand room (Ok n) bytes
      → {text : List ℕ} → Lines words (drop 5 s) text → Lines words s (take n bytes ++ text)
  all_then : {hand more s : List ℕ} → AtHand (eqb (length hand % 5) 0) hand more s
      → (room bytes : List ℕ) (n : ℕ) → allows.answer_all words hand room (Ok n) bytes
      → {text : List ℕ} → Lines words more text → Lines words s (take n bytes ++ text)

-- What the result of `begin`, the words and the bytes that it leaves, are to the output for the input s: all that is printed; or words that hold a
-- table and the first of what is printed, the rest of which are the lines of the requests, printed by any run of `answer` and `answer_all` from the
-- start told.
pub data Prints (s : List ℕ) : Result Opened Refusal → (words bytes : List ℕ) → Type 0 where
  all_printed : {n : ℕ} {words bytes : List ℕ} → desk s ≡ take n bytes → Prints s (Ok (Closed n)) words bytes
  lines_follow : {n start : ℕ} {words bytes : List ℕ} → holds_table words ≡ true
      → desk s ≡ take n bytes ++ requests_of (policy_of words) (drop start s)
      → ((text : List ℕ) → Lines words (drop start s) text → desk s ≡ take n bytes ++ text) → Prints s (Ok (Open n start)) words bytes
