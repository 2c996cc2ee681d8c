use Rattle.std.proofs.lemmas.Result.{err_from_is_err_and}
use Rattle.command.proofs.Calls.{call_refused, process_done}
use Rattle.command.proofs.start_process.Goals as goal

pub returns-in_err-start_process : goal.returns-in_err-start_process
returns-in_err-start_process c =
    let p = err_from_is_err_and c.from_residual.result c.from_residual.ensures.1 in
    rw (p.1, p.2) (call_refused _ _ _ _ c.in_err-start_process.ensures)

pub returns : goal.returns
returns c = search (process_done, c.in_ok-start_process.ensures)
