-- `rows::tell` meets its contract.
-- Assumes nothing.
use Rattle.std.proofs.lemmas.Result.{err_from_is_err_and}
use Rattle.rows.proofs.Telling.{tells_refused, tells_too_few, tells_enough}
use Rattle.rows.proofs.tell.Goals as goal

pub returns-in_err-explanation : goal.returns-in_err-explanation
returns-in_err-explanation c =
    let p = err_from_is_err_and c.from_residual.result c.from_residual.ensures.1 in
    rw (p.1, p.2) (tells_refused _ _ _ _ _ c.requires _ c.in_err-explanation.ensures)

pub returns-then-room-count : goal.returns-then-room-count
returns-then-room-count c = tells_too_few _ _ _ _ _ c.requires _ c.in_ok-explanation.ensures c.count.ensures c.if-room-count.true

pub returns : goal.returns
returns c = tells_enough _ _ _ _ _ c.requires _ c.in_ok-explanation.ensures c.count.ensures c.if-room-count.false
