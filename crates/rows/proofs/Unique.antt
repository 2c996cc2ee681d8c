-- The contract of the explanation allows one result: the answer, and each lent row.
-- Assumes nothing.
use mathlib.Core.Path.{◌≡◌, refl, sym, ap, ◌∙◌}
use mathlib.Core.List.{List, [], ◌∷◌, map}
use Rattle.std.specs.Prelude.{Result}
use Rattle.model.specs.Request.{Request as Asks}
use Rattle.model.specs.Calls.{Memory, explain}
use Rattle.answer.specs.declared.Refusal.{Refusal}
use Rattle.explain.specs.Answers.{numbers_of}
use Rattle.explain.specs.declared.Explanation.{Explanation}
use Rattle.explain.proofs.Answered.{one_explanation}
use Rattle.rows.specs.Rows.{from_numbers, row_of, leaving}
use Rattle.rows.specs.declared.Row.{Row}

-- a row's numbers are the row again
rows_again : (l : List Row) → map (λ r. from_numbers (numbers_of r)) (map row_of l) ≡ l
rows_again [] = refl
rows_again (r ∷ l) = ap (λ m. r ∷ m) (rows_again l)

-- two results that the contract allows are the same
pub explain_unique : (m : Memory) (q : Asks) (room : List Row) {r s : Result Explanation Refusal} {l k : List Row}
    → leaving r l ≡ explain m q (map row_of room) → leaving s k ≡ explain m q (map row_of room) → (r ≡ s) × (l ≡ k)
explain_unique m q room {r} {s} {l} {k} e f =
    let both : leaving r l ≡ leaving s k = e ∙ sym f in (
      one_explanation r s (ap (λ x. x.answers) both),
      sym (rows_again l) ∙ ap (λ x. map (λ y. from_numbers (numbers_of y)) x.leaves) both ∙ rows_again k,
    )
