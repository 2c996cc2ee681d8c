-- Refusal numbers are 01's, 1 to 14: one law for the lines of every call, and what it says of each call.
-- Assumes nothing.
use mathlib.Core.Path.{◌≡◌, refl, sym, ap, ◌∙◌}
use mathlib.Core.Bool.{true}
use mathlib.Core.List.{List}
use Prim.Native.Nat.{ℕ}
use lib.Dec.{eqb}
use lib.ListN.{length}
use Rattle.model.specs.Lists.{all_of, same}
use Rattle.answer.proofs.Numbered.{Number, listed_lines, first_number, command_lines_listed}
use Rattle.model.specs.Command.{Command, new_lines, command_lines, after}
use Rattle.model.specs.Image.{image_of, load_lines, save_lines}
use Rattle.model.specs.Contain.{contained}
use Rattle.model.specs.Request.{Request, verdict, decision, indexed_decision, request_lines, indexed_lines}
use Rattle.model.specs.Explain.{Explained, explain_lines, explanation, rows}
use Rattle.model.specs.Index.{index_of, bit_at, contain_lines, index_lines}
use Rattle.model.specs.Refusal.{Line, Answer, refused, answer}
use Rattle.model.specs.Calls.{Memory, contains, decide, decide_indexed, is_index, save, build, command, lent}
use Rattle.model.proofs.Refusals.{refused_first}
use Rattle.table.specs.Layout.{word_count}
use Rattle.table.specs.View.{empty_table}
use Rattle.table.specs.Answers.{new_table}
use Rattle.image.specs.Answers.{load_table}
use Rattle.std.specs.Prelude.{Result}
use Rattle.answer.specs.declared.Refusal.{Refusal}
use Rattle.explain.specs.Answers.{told, Left, left, explaining}
use Rattle.explain.specs.declared.Explanation.{Explanation}
use Rattle.exports.specs.Codes.{Listed}

-- a refusal has a number of 01's
abbrev pub Numbered : {A : Type 0} → Answer A → Type 0
Numbered a = (n : ℕ) → a ≡ refused n → Number n

-- a call that is answered by its lines is refused with a number of 01's where their numbers are
pub lines_numbered : {A : Type 0} (a : A) (ls : List Line) → listed_lines ls ≡ true → Numbered (answer ls a)
lines_numbered a ls t n e = first_number t (refused_first a ls e)

-- an answer that is the same as one whose refusals have numbers of 01's has a number of at most 14 where it is a refusal
pub as_numbered : {A : Type 0} {a b : Answer A} → a ≡ b → Numbered b → Listed a
as_numbered e f n h = (f n (sym e ∙ h)).most

-- a containment that is asked for is refused with a number of 01's
pub contains_numbered : (m : Memory) (x y : ℕ) → Numbered (contains m x y)
unfolding contains all_of
contains_numbered m x y = lines_numbered (contained m.policy x y) (contain_lines m.holds_table m.policy x y) refl

-- the same of the plain decision
pub decide_numbered : (m : Memory) (q : Request) → Numbered (decide m q)
unfolding decide decision all_of
decide_numbered m q = lines_numbered (verdict (contained m.policy) m.policy q) (request_lines m.holds_table m.policy q) refl

-- the same of the indexed decision
pub indexed_numbered : (m : Memory) (index : List ℕ) (q : Request) → Numbered (decide_indexed m index q)
unfolding decide_indexed indexed_decision all_of
indexed_numbered m index q = lines_numbered (verdict (bit_at index) m.policy q) (indexed_lines (lent m index) m.policy q) refl

-- the same of the explanation
pub explaining_numbered : (m : Memory) (q : Request) (room : List (List ℕ)) → Numbered (explaining m q room).answers
unfolding explaining explanation all_of
explaining_numbered m q room =
    lines_numbered {A = Explained} (record { verdict = verdict (contained m.policy) m.policy q; count = length (rows (contained m.policy) m.policy q) })
    (explain_lines (contained m.policy) m.holds_table (length room) m.policy q) refl

-- the same of the question whether an index is the table's
pub is_index_numbered : (m : Memory) (index : List ℕ) → Numbered (is_index m index)
unfolding is_index all_of
is_index_numbered m index = lines_numbered (same index (index_of m.policy)) (index_lines (lent m index)) refl

-- the same of new
pub new_numbered : (words : List ℕ) → Numbered (new_table words).answers
unfolding new_table all_of
new_numbered words = lines_numbered empty_table (new_lines (eqb (length words) word_count)) refl

-- the same of load
pub load_numbered : (image words : List ℕ) → Numbered (load_table image words).answers
unfolding load_table all_of
load_numbered image words = lines_numbered _ (load_lines (eqb (length words) word_count) image) refl

-- the same of save
pub save_numbered : (m : Memory) (room : List ℕ) → Numbered (save m room).answers
unfolding save all_of
save_numbered m room = lines_numbered (length (image_of m.policy)) (save_lines m.holds_table (length room) m.policy) refl

-- the same of building the index
pub build_numbered : (m : Memory) (index : List ℕ) → Numbered (build m index).answers
unfolding build all_of
build_numbered m index = lines_numbered (index_of m.policy) (index_lines (lent m index)) refl

-- so a command is refused with a number of 01's
pub command_numbered : (m : Memory) (index : List ℕ) (c : Command) → Numbered (command m index c).answers
unfolding command
command_numbered m index c =
    lines_numbered (after m.policy c) (command_lines (lent m index) m.policy c) (command_lines_listed (lent m index) m.policy c)

-- an explanation that the contract allows is refused with a number of at most 14
pub explained_listed : (r : Result Explanation Refusal) (m : Memory) (q : Request) (room : List (List ℕ)) {l : List (List ℕ)} → left r l ≡ explaining m q room → Listed (told r)
explained_listed r m q room k = as_numbered (ap (λ (b : Left). b.answers) k) (explaining_numbered m q room)
