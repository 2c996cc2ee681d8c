use Rattle.std.proofs.lemmas.Result.{err_from_is_err_and}
use Rattle.command.proofs.Calls.{call_refused, element_done, element_room}
use Rattle.command.proofs.create_element.Goals as goal

pub returns-in_err-create_element : goal.returns-in_err-create_element
returns-in_err-create_element c =
    let p = err_from_is_err_and c.from_residual.result c.from_residual.ensures.1 in
    rw (p.1, p.2) (call_refused _ _ _ _ c.in_err-create_element.ensures)

pub returns : goal.returns
returns c = element_done _ _ _ _ _ c.in_ok-create_element.ensures c.set_kind.ensures _ c.in_ok-add_assignment.ensures c.fill.ensures

-- what is not refused has room

pub returns-in_err-add_assignment : goal.returns-in_err-add_assignment
returns-in_err-add_assignment c = element_room _ _ _ _ _ c.in_ok-create_element.ensures c.set_kind.ensures _ c.in_err-add_assignment.ensures
