-- What each call of the C face may answer and leave: the `ensures` of its function in src/lib.rt under one name, over the words, bytes and rows before
-- the call and, with a prime, after it; r is the code that it answers. Words, bytes, rows and numbers are any whatever.
-- Assumes nothing.
use Rattle.std.specs.Prelude.{◌≡◌, List, ℕ}
use Rattle.model.specs.Request.{Request}
use Rattle.model.specs.Command.{Command}
use Rattle.model.specs.Calls as calls
use Rattle.table.specs.View.{memory}
use Rattle.table.specs.Answers.{new_table}
use Rattle.explain.specs.Answers.{explaining}
use Rattle.image.specs.Answers.{load_table}
use Rattle.exports.specs.Codes.{code, decision_code, yes_code, save_code, explain_code, Coded}

-- qd_new
abbrev pub new : (words : List ℕ) (r : ℕ) (words' : List ℕ) → Type 0
new words r words' = (r ≡ code (new_table words).answers) × (words' ≡ (new_table words).words)

-- qd_load
abbrev pub load : (words image : List ℕ) (r : ℕ) (words' : List ℕ) → Type 0
load words image r words' = (r ≡ code (load_table image words).answers) × (words' ≡ (load_table image words).words)

-- qd_save
abbrev pub save : (words bytes : List ℕ) (r : ℕ) (bytes' : List ℕ) → Type 0
save words bytes r bytes' = (r ≡ save_code (calls.save (memory words) bytes).answers) × (bytes' ≡ (calls.save (memory words) bytes).leaves)

-- qd_build_index
abbrev pub build_index : (words bytes : List ℕ) (r : ℕ) (bytes' : List ℕ) → Type 0
build_index words bytes r bytes' = (r ≡ code (calls.build (memory words) bytes).answers) × (bytes' ≡ (calls.build (memory words) bytes).index)

-- qd_is_index
abbrev pub is_index : (words bytes : List ℕ) (r : ℕ) → Type 0
is_index words bytes r = r ≡ yes_code (calls.is_index (memory words) bytes)

-- qd_contains
abbrev pub contains : (words : List ℕ) (x y : ℕ) (r : ℕ) → Type 0
contains words x y r = r ≡ yes_code (calls.contains (memory words) x y)

-- qd_decide
abbrev pub decide : (words : List ℕ) (q : Request) (r : ℕ) → Type 0
decide words q r = r ≡ decision_code (calls.decide (memory words) q)

-- qd_decide_indexed
abbrev pub decide_indexed : (words bytes : List ℕ) (q : Request) (r : ℕ) → Type 0
decide_indexed words bytes q r = r ≡ decision_code (calls.decide_indexed (memory words) bytes q)

-- qd_explain: its rows are rows of eight numbers
abbrev pub explain : (words : List ℕ) (q : Request) (rows : List (List ℕ)) (r : ℕ) (rows' : List (List ℕ)) → Type 0
explain words q rows r rows' = (r ≡ explain_code (explaining (memory words) q rows).answers) × (rows' ≡ (explaining (memory words) q rows).rows)

-- the eleven commands: qd_create_class, qd_create_element, qd_assign, qd_deassign, qd_delete_element, qd_create_association, qd_delete_association,
-- qd_create_prohibition, qd_delete_prohibition, qd_start_process, qd_end_process
abbrev pub command : (words bytes : List ℕ) (c : Command) (r : ℕ) (words' bytes' : List ℕ) → Type 0
command words bytes c r words' bytes' = Coded words bytes c r words' bytes'
