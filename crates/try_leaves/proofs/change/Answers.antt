use Rattle.table.proofs.Asked.{tested}
use Rattle.try_leaves.proofs.change.Goals as goal

pub take_assignment-requires-clause-table : goal.take_assignment-requires-clause-table
take_assignment-requires-clause-table c = search tested

pub take_assignments_of-requires-clause-table : goal.take_assignments_of-requires-clause-table
take_assignments_of-requires-clause-table c = search tested
