use Rattle.std.proofs.lemmas.Result.{err_from_is_err_and}
use Rattle.command.proofs.Calls.{call_refused, class_done}
use Rattle.command.proofs.create_class.Goals as goal

pub returns-in_err-create_class : goal.returns-in_err-create_class
returns-in_err-create_class c =
    let p = err_from_is_err_and c.from_residual.result c.from_residual.ensures.1 in
    rw (p.1, p.2) (call_refused _ _ _ _ c.in_err-create_class.ensures)

pub returns : goal.returns
returns c = search (class_done, c.in_ok-create_class.ensures)
