-- What each call of the desk may answer and leave: the `ensures` of its function in src/lib.rt under one name, over the words and the bytes before the
-- call and, with a prime, after it. s are the bytes that are read, room those that are printed to; words, bytes and numbers are any whatever.
-- Assumes nothing.
use Rattle.std.specs.Prelude.{◌≡◌, Result, List, ℕ}
use Rattle.answer.specs.declared.Refusal.{Refusal}
use Rattle.desk.specs.declared.Opened.{Opened}
use Rattle.desk.specs.Printing.{wanted_bytes, answering, answering_all, left, beginning, left_begun}

-- wanted: as many bytes as `wanted_bytes` says. That these are 2 to 65,537, which is so only as a byte is at most 255, is an `ensures` of its own.
abbrev pub wanted : (s : List ℕ) (r : ℕ) → Type 0
wanted s r = r ≡ wanted_bytes s

-- begin
abbrev pub begin : (words s room : List ℕ) (r : Result Opened Refusal) (words' room' : List ℕ) → Type 0
begin words s room r words' room' = left_begun r words' room' ≡ beginning s words room

-- answer
abbrev pub answer : (words s room : List ℕ) (r : Result ℕ Refusal) (room' : List ℕ) → Type 0
answer words s room r room' = left r room' ≡ answering words s room

-- answer_all
abbrev pub answer_all : (words s room : List ℕ) (r : Result ℕ Refusal) (room' : List ℕ) → Type 0
answer_all words s room r room' = left r room' ≡ answering_all words s room
