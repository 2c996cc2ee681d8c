use Rattle.std.proofs.lemmas.Result.{err_from_is_err_and}
use Rattle.command.proofs.Calls.{association_gone, call_refused}
use Rattle.command.proofs.delete_association.Goals as goal

pub returns-in_err-delete_association : goal.returns-in_err-delete_association
returns-in_err-delete_association c =
    let p = err_from_is_err_and c.from_residual.result c.from_residual.ensures.1 in
    rw (p.1, p.2) (call_refused _ _ _ _ c.in_err-delete_association.ensures)

pub returns : goal.returns
returns c = search (association_gone, c.in_ok-delete_association.ensures)
