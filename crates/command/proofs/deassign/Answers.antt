use Rattle.std.proofs.lemmas.Result.{err_from_is_err_and}
use Rattle.command.proofs.Calls.{call_refused, deassign_done}
use Rattle.command.proofs.deassign.Goals as goal

pub returns-in_err-deassign : goal.returns-in_err-deassign
returns-in_err-deassign c =
    let p = err_from_is_err_and c.from_residual.result c.from_residual.ensures.1 in
    rw (p.1, p.2) (call_refused _ _ _ _ c.in_err-deassign.ensures)

pub returns : goal.returns
returns c = search (deassign_done, c.in_ok-deassign.ensures)
