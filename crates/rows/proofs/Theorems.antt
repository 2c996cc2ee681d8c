-- What is known of every result that the contract of the explanation in structs allows: what is known of the explanation in numbers.
-- Assumes nothing.
use mathlib.Core.Path.{◌≡◌, refl, sym, ap, ◌∙◌}
use mathlib.Core.List.{List, map}
use lib.ListN.{length, length-map}
use Rattle.model.specs.Contain.{contained}
use Rattle.model.specs.Refusal.{Answer, refused, accepted}
use Rattle.model.specs.Request.{Request as Asks}
use Rattle.model.specs.Explain.{Explained, rows, explanation}
use Rattle.model.specs.Explain as explain
use Rattle.model.specs.Calls.{Memory, Explaining, kept, over}
use Rattle.model.specs.Calls as calls
use Rattle.std.specs.Prelude.{Result}
use Rattle.answer.specs.declared.Refusal.{Refusal}
use Rattle.explain.specs.Answers.{told, left, numbers_of, numbers, explaining}
use Rattle.explain.specs.declared.Explanation.{Explanation}
use Rattle.rows.specs.Rows.{row_of, leaving, numbers_in}
use Rattle.rows.specs.declared.Row.{Row}
use Rattle.rows.proofs.Answered.{map_over}

-- the numbers of the rows that a call leaves
numbers_kept : (a : Answer Explained) (new old : List explain.Row) → map numbers_of (kept a (over new old) old) ≡ kept a (over (map numbers_of new) (map numbers_of old)) (map numbers_of old)
unfolding kept
numbers_kept (refused n) new old = refl
numbers_kept (accepted a) new old = map_over numbers_of new old

-- the explanation in structs answers and leaves, row by row, what the explanation in numbers does; so each theorem of `explain` is one of it
pub as_numbers : (m : Memory) (q : Asks) (room out : List Row) (r : Result Explanation Refusal) → leaving r out ≡ calls.explain m q (map row_of room)
    → left r (numbers_in out) ≡ explaining m q (numbers_in room)
unfolding calls.explain explaining numbers
as_numbers m q room out r e =
    let size : length (map row_of room) ≡ length (numbers_in room) = sym (length-map (map row_of room) numbers_of) in
    let told_is : told r ≡ explanation (contained m.policy) m.holds_table (length (numbers_in room)) m.policy q =
    ap (λ (x : Explaining). x.answers) e ∙ ap (λ n. explanation (contained m.policy) m.holds_table n m.policy q) size in
    let leaves-is : numbers_in out ≡ kept (explanation (contained m.policy) m.holds_table (length (numbers_in room)) m.policy q)
    (over (map numbers_of (rows (contained m.policy) m.policy q)) (numbers_in room)) (numbers_in room) =
    ap (λ (x : Explaining). map numbers_of x.leaves) e
    ∙ numbers_kept (explanation (contained m.policy) m.holds_table (length (map row_of room)) m.policy q) (rows (contained m.policy) m.policy q) (map row_of room)
    ∙ ap (λ n. kept (explanation (contained m.policy) m.holds_table n m.policy q) (over (map numbers_of (rows (contained m.policy) m.policy q)) (numbers_in room)) (numbers_in room)) size in
    λ i. record { answers = told_is i; rows = leaves-is i }
