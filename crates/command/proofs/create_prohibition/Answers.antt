use Rattle.std.proofs.lemmas.Result.{err_from_is_err_and}
use Rattle.command.proofs.Calls.{call_refused, prohibition_done, prohibition_room}
use Rattle.command.proofs.create_prohibition.Goals as goal

pub returns-in_err-create_prohibition : goal.returns-in_err-create_prohibition
returns-in_err-create_prohibition c =
    let p = err_from_is_err_and c.from_residual.result c.from_residual.ensures.1 in
    rw (p.1, p.2) (call_refused _ _ _ _ c.in_err-create_prohibition.ensures)

pub returns : goal.returns
returns c = search (prohibition_done, c.in_ok-create_prohibition.ensures, c.in_ok-add_prohibition.ensures)

-- what is not refused has room

pub returns-in_err-add_prohibition : goal.returns-in_err-add_prohibition
returns-in_err-add_prohibition c = prohibition_room _ _ _ c.in_ok-create_prohibition.ensures _ c.in_err-add_prohibition.ensures
