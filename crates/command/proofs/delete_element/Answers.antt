use Rattle.std.proofs.lemmas.Result.{err_from_is_err_and}
use Rattle.command.proofs.Calls.{call_refused, delete_done}
use Rattle.command.proofs.delete_element.Goals as goal

pub returns-in_err-delete_element : goal.returns-in_err-delete_element
returns-in_err-delete_element c =
    let p = err_from_is_err_and c.from_residual.result c.from_residual.ensures.1 in
    rw (p.1, p.2) (call_refused _ _ _ _ c.in_err-delete_element.ensures)

pub returns : goal.returns
returns c = search (delete_done, c.in_ok-delete_element.ensures)
