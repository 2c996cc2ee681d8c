use Rattle.table.proofs.Asked.{tested}
use Rattle.try_decide.proofs.change.Goals as goal

pub give_user-requires-clause-table : goal.give_user-requires-clause-table
give_user-requires-clause-table c = search tested

pub associate-requires-clause-table : goal.associate-requires-clause-table
associate-requires-clause-table c = search tested

pub finish-requires : goal.finish-requires
finish-requires c = search tested
