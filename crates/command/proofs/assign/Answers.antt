use Rattle.std.proofs.lemmas.Result.{err_from_is_err_and}
use Rattle.command.proofs.Calls.{assign_done, assign_room, call_refused}
use Rattle.command.proofs.assign.Goals as goal

pub returns-in_err-assign : goal.returns-in_err-assign
returns-in_err-assign c =
    let p = err_from_is_err_and c.from_residual.result c.from_residual.ensures.1 in
    rw (p.1, p.2) (call_refused _ _ _ _ c.in_err-assign.ensures)

pub returns : goal.returns
returns c = search (assign_done, c.in_ok-assign.ensures, c.in_ok-add_assignment.ensures)

-- what is not refused has room

pub returns-in_err-add_assignment : goal.returns-in_err-add_assignment
returns-in_err-add_assignment c = assign_room _ _ _ _ c.in_ok-assign.ensures _ c.in_err-add_assignment.ensures
