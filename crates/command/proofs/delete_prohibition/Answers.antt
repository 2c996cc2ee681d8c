use Rattle.std.proofs.lemmas.Result.{err_from_is_err_and}
use Rattle.command.proofs.Calls.{call_refused, prohibition_gone}
use Rattle.command.proofs.delete_prohibition.Goals as goal

pub returns-in_err-delete_prohibition : goal.returns-in_err-delete_prohibition
returns-in_err-delete_prohibition c =
    let p = err_from_is_err_and c.from_residual.result c.from_residual.ensures.1 in
    rw (p.1, p.2) (call_refused _ _ _ _ c.in_err-delete_prohibition.ensures)

pub returns : goal.returns
returns c = search (prohibition_gone, c.in_ok-delete_prohibition.ensures)
