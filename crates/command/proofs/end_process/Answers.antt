use Rattle.std.proofs.lemmas.Result.{err_from_is_err_and}
use Rattle.command.proofs.Calls.{call_refused, process_gone}
use Rattle.command.proofs.end_process.Goals as goal

pub returns-in_err-end_process : goal.returns-in_err-end_process
returns-in_err-end_process c =
    let p = err_from_is_err_and c.from_residual.result c.from_residual.ensures.1 in
    rw (p.1, p.2) (call_refused _ _ _ _ c.in_err-end_process.ensures)

pub returns : goal.returns
returns c = search (process_gone, c.in_ok-end_process.ensures)
