-- `rows::explain` meets its contract: the answer is told of the numbers of its rows, and these are copied into the lent rows.
-- Assumes nothing.
use Rattle.std.proofs.lemmas.Result.{err_from_is_err_and}
use Rattle.rows.proofs.Answered.{answered, answered_refused}
use Rattle.rows.proofs.explain.Goals as goal

pub returns-in_err-explanation : goal.returns-in_err-explanation
returns-in_err-explanation c =
    let p = err_from_is_err_and c.from_residual.result c.from_residual.ensures.1 in
    rw (p.1, p.2) (answered_refused _ _ _ _ _ _ c.in_err-explanation.ensures)

pub returns : goal.returns
returns c = answered _ _ _ _ _ _ _ _ c.in_ok-explanation.ensures c.count-n.ensures c.copy_rows.ensures
