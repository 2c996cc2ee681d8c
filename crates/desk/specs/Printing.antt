-- What the calls of the desk print, answer and leave.
-- Assumes nothing.
use Rattle.std.specs.Prelude.{Result, Bool, true, cond, not, List, [], ◌∷◌, ℕ, zero, suc, ◌+◌, ◌*◌, ◌/◌, eqb, ltb, length, take, drop, get_or}
use Rattle.model.specs.Policy.{Policy}
use Rattle.model.specs.Refusal.{Line, ◌when◌, Answer, refused, accepted, answer}
use Rattle.model.specs.Bits.{bits_of}
use Rattle.model.specs.Desk.{line, L, R, counts_line, request_line, requests_of}
use Rattle.model.specs.Calls.{Saving, kept, over}
use Rattle.table.specs.Layout.{word_count}
use Rattle.table.specs.View.{holds_table, policy_of}
use Rattle.image.specs.Answers.{load_table}
use Rattle.answer.specs.declared.Refusal.{Refusal}
use Rattle.answer.specs.Answers as answers
use Rattle.desk.specs.declared.Opened.{Opened}
use Rattle.desk.specs.declared.Opened.TheVariants as opened

-- a line needs no more bytes than these; a call that is lent fewer is refused with 10
abbrev pub line_room : ℕ
line_room = 64

-- The line of the first request among these bytes: none where there are no bytes; "a last request cut short is `R 12`"
unfoldable pub first_line : Policy → List ℕ → List ℕ
first_line p s =
    cond (eqb (length s) 0) []
    (cond (ltb (length s) 5) (line R (12 ∷ []))
    (request_line p (bits_of (take 5 s))))

-- the lines of a call that answers a request: "1: the working memory .. holds no table", "10: .. output bytes are too few"
abbrev pub answer_lines : (words room : List ℕ) → List Line
answer_lines words room = (1 when not (holds_table words)) ∷ (10 when ltb (length room) line_room) ∷ []

-- Printing a text where no line refuses: how many bytes it has, and the lent bytes afterwards, in front of which it stands.
abbrev pub printing : (lines : List Line) (text room : List ℕ) → Saving
printing lines text room =
    let told = answer lines (length text) in
    record { answers = told; leaves = kept told (over text room) room }

-- Answering a request: its line is printed.
unfoldable pub answering : (words s room : List ℕ) → Saving
answering words s room = printing (answer_lines words room) (first_line (policy_of words) s) room

-- how many requests the bytes are: five bytes each, and a last one that is cut short counts
abbrev pub request_count : List ℕ → ℕ
request_count s = (length s + 4) / 5

-- the bytes of so many requests, one by one: five, or what is left
unfoldable pub requests_in : (count : ℕ) → List ℕ → List (List ℕ)
requests_in zero s = []
requests_in (suc n) s = take 5 s ∷ requests_in n (drop 5 s)

-- the lines of a call that answers all requests: the same, with room for as many lines as there are requests
abbrev pub answer_all_lines : (words s room : List ℕ) → List Line
answer_all_lines words s room = (1 when not (holds_table words)) ∷ (10 when ltb (length room) (line_room * request_count s)) ∷ []

-- Answering all requests: their lines are printed, one behind the other.
unfoldable pub answering_all : (words s room : List ℕ) → Saving
answering_all words s room = printing (answer_all_lines words s room) (requests_of (policy_of words) s) room

-- `Ok`: so many bytes were printed; `Err`: the refusal's number
abbrev pub told : Result ℕ Refusal → Answer ℕ
told r = answers.told (λ n. n) r

-- the same of what the code answers and leaves
abbrev pub left : Result ℕ Refusal → (bytes : List ℕ) → Saving
left r bytes = record { answers = told r; leaves = bytes }

-- "image length in two bytes (high first)"
abbrev pub image_length : List ℕ → ℕ
image_length s = 256 * get_or s 0 0 + get_or s 1 0

-- "too few bytes for length or image"
unfoldable pub is_short : List ℕ → Bool
is_short s = cond (ltb (length s) 2) true (ltb (length s) (2 + image_length s))

-- how many bytes the length and the image are: two where the length is not there, else two and as many as they say
unfoldable pub wanted_bytes : List ℕ → ℕ
wanted_bytes s = cond (ltb (length s) 2) 2 (2 + image_length s)

-- the image: "too few bytes for length or image is `L 12`, of any form"
unfoldable pub image_answer : (s words : List ℕ) → Answer (List ℕ)
image_answer s words = cond (is_short s) (refused 12) (load_table (take (image_length s) (drop 2 s)) words).answers

-- What was begun: how many bytes the line has; whether requests follow it, and where they start.
pub data Begun : Type 0 where
  requests_follow : (printed start : ℕ) → Begun
  nothing_more : (printed : ℕ) → Begun

-- the first line: "`P` and the five counts in image order", or "An image refused is `L number`"
unfoldable pub head_line : Answer (List ℕ) → List ℕ
head_line (refused n) = line L (n ∷ [])
head_line (accepted words) = counts_line (policy_of words)

-- requests follow where the image was accepted: "An image refused is `L number` and nothing more"
unfoldable pub begun : (s : List ℕ) → Answer (List ℕ) → Begun
begun s (refused n) = nothing_more (length (head_line (refused n)))
begun s (accepted words) = requests_follow (length (head_line (accepted words))) (2 + image_length s)

-- the words after it: as they were where the image was refused
unfoldable pub words_in : Answer (List ℕ) → (words : List ℕ) → List ℕ
words_in (refused n) words = words
words_in (accepted made) words = made

-- the lines of the call that begins: "1: the working memory has another length than the published one", "10: .. output bytes are too few"
abbrev pub begin_lines : (words room : List ℕ) → List Line
begin_lines words room = (1 when not (eqb (length words) word_count)) ∷ (10 when ltb (length room) line_room) ∷ []

-- Beginning: its answer, the words and the lent bytes afterwards.
pub record Beginning : Type 0 where
  pub answers : Answer Begun
  pub words : List ℕ
  pub bytes : List ℕ

-- beginning, whole
unfoldable pub beginning : (s words room : List ℕ) → Beginning
beginning s words room =
    let image = image_answer s words in
    let told = answer (begin_lines words room) (begun s image) in
    record { answers = told; words = kept told (words_in image words) words; bytes = kept told (over (head_line image) room) room }

-- `Open`: the image was accepted, so many bytes were printed, and there the requests start; `Closed`: the image was refused, so many bytes were
-- printed
unfoldable pub begun_by : Opened → Begun
begun_by (opened.Open n start) = requests_follow n start
begun_by (opened.Closed n) = nothing_more n

-- `Ok`: what was begun; `Err`: the refusal's number
abbrev pub told_begun : Result Opened Refusal → Answer Begun
told_begun r = answers.told begun_by r

-- the same of what the code answers and leaves
abbrev pub left_begun : Result Opened Refusal → (words bytes : List ℕ) → Beginning
left_begun r words bytes = record { answers = told_begun r; words = words; bytes = bytes }
