-- What each public call may answer and leave: the `ensures` of its function in src/lib.rt under one name, over the words, bytes and rows before the
-- call and, with a prime, after it. Words, bytes, rows and numbers are any whatever.
-- Assumes nothing.
use Rattle.std.specs.Prelude.{◌≡◌, Bool, Result, List, map, ℕ}
use Rattle.model.specs.Command.{Command}
use Rattle.model.specs.Calls as calls
use Rattle.table.specs.View.{memory}
use Rattle.table.specs.Answers as table
use Rattle.answer.specs.declared.Refusal.{Refusal}
use Rattle.climb.specs.Answers as climb
use Rattle.index.specs.Answers as index
use Rattle.request.specs.Asks.{request_of}
use Rattle.request.specs.declared.Request.{Request}
use Rattle.decide.specs.Answers as decision
use Rattle.decide.specs.declared.Decision.{Decision}
use Rattle.explain.specs.Answers as numbers
use Rattle.explain.specs.declared.Explanation.{Explanation}
use Rattle.rows.specs.Rows.{row_of, leaving}
use Rattle.rows.specs.declared.Row.{Row}
use Rattle.image.specs.Answers as image
use Rattle.command.specs.Commanded.{Commanded}

-- new
abbrev pub new : (words : List ℕ) (r : Result (Unit {0}) Refusal) (words' : List ℕ) → Type 0
new words r words' = table.left r words' ≡ table.new_table words

-- load
abbrev pub load : (words image : List ℕ) (r : Result (Unit {0}) Refusal) (words' : List ℕ) → Type 0
load words bytes r words' = table.left r words' ≡ image.load_table bytes words

-- save
abbrev pub save : (words bytes : List ℕ) (r : Result ℕ Refusal) (bytes' : List ℕ) → Type 0
save words bytes r bytes' = image.left r bytes' ≡ calls.save (memory words) bytes

-- build_index
abbrev pub build_index : (words bytes : List ℕ) (r : Result (Unit {0}) Refusal) (bytes' : List ℕ) → Type 0
build_index words bytes r bytes' = index.left r bytes' ≡ calls.build (memory words) bytes

-- is_index
abbrev pub is_index : (words bytes : List ℕ) (r : Result Bool Refusal) → Type 0
is_index words bytes r = index.matched r ≡ calls.is_index (memory words) bytes

-- contains
abbrev pub contains : (words : List ℕ) (x y : ℕ) (r : Result Bool Refusal) → Type 0
contains words x y r = climb.told r ≡ calls.contains (memory words) x y

-- decide
abbrev pub decide : (words : List ℕ) (q : Request) (r : Result Decision Refusal) → Type 0
decide words q r = decision.told r ≡ calls.decide (memory words) (request_of q)

-- decide_indexed
abbrev pub decide_indexed : (words bytes : List ℕ) (q : Request) (r : Result Decision Refusal) → Type 0
decide_indexed words bytes q r = decision.told r ≡ calls.decide_indexed (memory words) bytes (request_of q)

-- explain_numbers: its rows are rows of eight numbers
abbrev pub explain_numbers : (words : List ℕ) (q : Request) (rows : List (List ℕ)) (r : Result Explanation Refusal) (rows' : List (List ℕ)) → Type 0
explain_numbers words q rows r rows' = numbers.left r rows' ≡ numbers.explaining (memory words) (request_of q) rows

-- explain: its rows are structs
abbrev pub explain : (words : List ℕ) (q : Request) (rows : List Row) (r : Result Explanation Refusal) (rows' : List Row) → Type 0
explain words q rows r rows' = leaving r rows' ≡ calls.explain (memory words) (request_of q) (map row_of rows)

-- the eleven commands: create_class, create_element, assign, deassign, delete_element, create_association, delete_association, create_prohibition,
-- delete_prohibition, start_process, end_process
abbrev pub command : (words bytes : List ℕ) (c : Command) (r : Result (Unit {0}) Refusal) (words' bytes' : List ℕ) → Type 0
command words bytes c r words' bytes' = Commanded words bytes c r words' bytes'
