use Rattle.std.proofs.lemmas.Result.{err_from_is_err_and}
use Rattle.command.proofs.Calls.{association_done, association_room, call_refused}
use Rattle.command.proofs.create_association.Goals as goal

pub returns-in_err-create_association : goal.returns-in_err-create_association
returns-in_err-create_association c =
    let p = err_from_is_err_and c.from_residual.result c.from_residual.ensures.1 in
    rw (p.1, p.2) (call_refused _ _ _ _ c.in_err-create_association.ensures)

pub returns : goal.returns
returns c = search (association_done, c.in_ok-create_association.ensures, c.in_ok-add_association.ensures)

-- what is not refused has room

pub returns-in_err-add_association : goal.returns-in_err-add_association
returns-in_err-add_association c = association_room _ _ _ c.in_ok-create_association.ensures _ c.in_err-add_association.ensures
