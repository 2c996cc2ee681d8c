-- What is claimed of every result that the contracts of the desk's calls allow, and of the whole output of the desk program. proofs/Theorems.antt
-- proves it: the theorem `unique` is of type `Unique`, and so on.
-- Assumes nothing.
use Rattle.std.specs.Prelude.{◌≡◌, Result, Ok, true, not, List, [], ◌∷◌, ◌↔◌, ℕ, ◌+◌, ◌*◌, ◌≤◌, ◌<◌, length, take}
use Rattle.model.specs.Contain.{contained}
use Rattle.model.specs.Refusal.{None, accepted}
use Rattle.model.specs.Explain.{rows as rows_for, joined}
use Rattle.model.specs.Calls.{over}
use Rattle.model.specs.Desk.{line, D, R, deny_line, requests_of}
use Rattle.table.specs.Layout.{word_count}
use Rattle.table.specs.View.{holds_table, policy_of}
use Rattle.request.specs.declared.Request.{Request}
use Rattle.request.specs.Asks.{request_of}
use Rattle.decide.specs.declared.Decision.TheVariants as decision
use Rattle.explain.specs.declared.Explanation.{Explanation}
use Rattle.explain.specs.declared.Explanation.TheVariants as explanation
use Rattle.explain.specs.Results.{first_why}
use Rattle.policy.specs.Allows as policy
use Rattle.policy.specs.Claims.{Refuses}
use Rattle.answer.specs.declared.Refusal.{Refusal}
use Rattle.desk.specs.declared.Opened.{Opened}
use Rattle.desk.specs.declared.Opened.TheVariants as opened
use Rattle.desk.specs.Printing.{line_room, first_line, answer_lines, request_count, requests_in, answer_all_lines, image_length, is_short, image_answer, head_line, begun, words_in, begin_lines, told_begun}
use Rattle.desk.specs.Running.{AtHand, Lines, Prints}
use Rattle.desk.specs.Allows as allows

-- unique. Any two results that a contract allows are equal: the answer, and every word and byte that was lent to be written.
pub record Unique : Type 0 where
  pub wanted : (s : List ℕ) (r q : ℕ) → allows.wanted s r → allows.wanted s q → r ≡ q
  pub begin : (words s room : List ℕ) (r q : Result Opened Refusal) (words' words'' room' room'' : List ℕ) → allows.begin words s room r words' room'
      → allows.begin words s room q words'' room'' → (r ≡ q) × (words' ≡ words'') × (room' ≡ room'')
  pub answer : (words s room : List ℕ) (r q : Result ℕ Refusal) (room' room'' : List ℕ) → allows.answer words s room r room' → allows.answer words s room q room''
      → (r ≡ q) × (room' ≡ room'')
  pub answer_all : (words s room : List ℕ) (r q : Result ℕ Refusal) (room' room'' : List ℕ) → allows.answer_all words s room r room'
      → allows.answer_all words s room q room'' → (r ≡ q) × (room' ≡ room'')

-- wanted_exact. "too few bytes for length or image": exactly where they are fewer than are wanted.
abbrev pub WantedExact : Type 0
WantedExact = (s : List ℕ) (r : ℕ) → allows.wanted s r → (is_short s ≡ true) ↔ (length s < r)

-- begin_refusals_exact. Each refusal of `begin` is given exactly if its line holds and none before it does, and a refused call leaves every word and byte.
abbrev pub BeginRefusalsExact : Type 0
BeginRefusalsExact = (words s room words' room' : List ℕ) (r : Result Opened Refusal) → allows.begin words s room r words' room'
    → Refuses (begin_lines words room) r ((words' ≡ words) × (room' ≡ room))

-- answer_refusals_exact. The same of `answer`.
abbrev pub AnswerRefusalsExact : Type 0
AnswerRefusalsExact = (words s room room' : List ℕ) (r : Result ℕ Refusal) → allows.answer words s room r room'
    → Refuses (answer_lines words room) r (room' ≡ room)

-- answer_all_refusals_exact. The same of `answer_all`.
abbrev pub AnswerAllRefusalsExact : Type 0
AnswerAllRefusalsExact = (words s room room' : List ℕ) (r : Result ℕ Refusal) → allows.answer_all words s room r room'
    → Refuses (answer_all_lines words s room) r (room' ≡ room)

-- What `begin` answers and leaves where no line refuses it: what it tells, the words, and the first line in front of the bytes that stood behind it.
pub record Begins (words s room : List ℕ) (r : Result Opened Refusal) (words' room' : List ℕ) : Type 0 where
  pub tells : told_begun r ≡ accepted (begun s (image_answer s words))
  pub words_are : words' ≡ words_in (image_answer s words) words
  pub room_is : room' ≡ over (head_line (image_answer s words)) room

-- begin_exact. The first line, and where requests follow.
pub record BeginExact : Type 0 where
  -- it prints where no line refuses the call
  pub begins : (words s room words' room' : List ℕ) (r : Result Opened Refusal) → allows.begin words s room r words' room' → None (begin_lines words room)
      → Begins words s room r words' room'
  -- requests follow where the image was accepted: they start behind the length and the image, which are there
  pub start : (words s room words' room' : List ℕ) (n start : ℕ) → allows.begin words s room (Ok (opened.Open n start)) words' room'
      → (start ≡ 2 + image_length s) × (start ≤ length s)
  -- and the words hold a table
  pub table : (words s room words' room' : List ℕ) (n start : ℕ) → allows.begin words s room (Ok (opened.Open n start)) words' room'
      → holds_table words' ≡ true
  -- the line of an accepted image has at most 57 bytes
  pub open_short : (words s room words' room' : List ℕ) (n start : ℕ) → allows.begin words s room (Ok (opened.Open n start)) words' room' → n ≤ 57
  -- so has that of a refused one
  pub closed_short : (words s room words' room' : List ℕ) (n : ℕ) → allows.begin words s room (Ok (opened.Closed n)) words' room' → n ≤ 57

-- answer_exact. The line of a request.
pub record AnswerExact : Type 0 where
  -- it prints exactly if no line refuses the call, and tells how many bytes the line has
  pub prints : (words s room room' : List ℕ) (r : Result ℕ Refusal) → allows.answer words s room r room' → (n : ℕ) → (r ≡ Ok n)
      ↔ (None (answer_lines words room) × (n ≡ length (first_line (policy_of words) s)))
  -- the line stands in front, and behind it the bytes that stood there
  pub in_front : (words s room room' : List ℕ) (n : ℕ) → allows.answer words s room (Ok n) room' → room' ≡ over (first_line (policy_of words) s) room
  -- it has at most 57 bytes
  pub short : (words s room room' : List ℕ) (n : ℕ) → allows.answer words s room (Ok n) room' → n ≤ 57

-- answer_all_exact. The lines of all requests.
pub record AnswerAllExact : Type 0 where
  -- it prints exactly if no line refuses the call, and tells how many bytes the lines of the requests have
  pub prints : (words s room room' : List ℕ) (r : Result ℕ Refusal) → allows.answer_all words s room r room' → (n : ℕ) → (r ≡ Ok n)
      ↔ (None (answer_all_lines words s room) × (n ≡ length (requests_of (policy_of words) s)))
  -- the lines stand in front, and behind them the bytes that stood there
  pub in_front : (words s room room' : List ℕ) (n : ℕ) → allows.answer_all words s room (Ok n) room'
      → room' ≡ over (requests_of (policy_of words) s) room
  -- they have at most 57 bytes for each request
  pub short : (words s room room' : List ℕ) (n : ℕ) → allows.answer_all words s room (Ok n) room' → n ≤ 57 * request_count s

-- never_ten. The line of a request is never `R 10`: the call lends two rows of its own to explain a deny, and these suffice (`two_rows_suffice`).
abbrev pub NeverTen : Type 0
NeverTen = (words s room room' : List ℕ) (n : ℕ) → allows.answer words s room (Ok n) room' → take n room' ≡ line R (10 ∷ []) → ⊥

-- What a text is that holds no line `R 10`: the lines of the requests of s, one behind the other, and no line of a request is `R 10`.
pub record NoTen (words s text : List ℕ) : Type 0 where
  pub lines : text ≡ joined (first_line (policy_of words)) (requests_in (request_count s) s)
  pub no_ten : (request : List ℕ) → first_line (policy_of words) request ≡ line R (10 ∷ []) → ⊥

-- never_ten_all. So it is of what `answer_all` prints.
abbrev pub NeverTenAll : Type 0
NeverTenAll = (words s room room' : List ℕ) (n : ℕ) → allows.answer_all words s room (Ok n) room' → NoTen words s (take n room')

-- how many rows a request has
abbrev pub needed : (words : List ℕ) (q : Request) → ℕ
needed words q = length (rows_for (contained (policy_of words)) (policy_of words) (request_of q))

-- What two lent rows suffice for: the explanation e is a deny, with one row or two, and the first has the four numbers of the line.
pub record TwoSuffice (words : List ℕ) (q : Request) (e : Result Explanation Refusal) (rows : List (List ℕ)) : Type 0 where
  pub is : e ≡ Ok (explanation.Deny (needed words q))
  pub some : 1 ≤ needed words q
  pub few : needed words q ≤ 2
  pub printed : line D (first_why rows) ≡ deny_line (rows_for (contained (policy_of words)) (policy_of words) (request_of q))

-- two_rows_suffice. A request that is denied needs no more than two lent rows, whatever is lent.
abbrev pub TwoRowsSuffice : Type 0
TwoRowsSuffice = (words : List ℕ) (q : Request) → policy.decide words q (Ok decision.Deny) → (rows rows' : List (List ℕ)) (e : Result Explanation Refusal) → 2 ≤ length rows
    → policy.explain_numbers words q rows e rows' → TwoSuffice words q e rows'

-- lines-are. Calls of `answer`, each on five bytes or more or on what is left, and of `answer_all`, each on whole requests or on what is left, one after
-- another, print the lines of all requests.
abbrev pub LinesAre : Type 0
LinesAre = (words s text : List ℕ) → Lines words s text → text ≡ requests_of (policy_of words) s

-- lines_exist. Such calls there are, on any words that hold a table and over any bytes.
abbrev pub LinesExist : Type 0
LinesExist = (words : List ℕ) → holds_table words ≡ true → (s : List ℕ) → Lines words s (requests_of (policy_of words) s)

-- desk_prints. The whole: any input s, of which the bytes at hand are all or hold the length and the image; any words of the published length; any room
-- of at least 64 bytes. What `begin` and then `answer` and `answer_all`, call by call, print is the output that 01 gives for the input.
abbrev pub DeskPrints : Type 0
DeskPrints = (words room : List ℕ) → length words ≡ word_count → line_room ≤ length room → (hand more s : List ℕ) → AtHand (not (is_short hand)) hand more s
    → (r : Result Opened Refusal) (words' room' : List ℕ) → allows.begin words hand room r words' room' → Prints s r words' room'
