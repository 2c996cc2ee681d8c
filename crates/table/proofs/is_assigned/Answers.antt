use Rattle.table.proofs.Assignments.{assigned_between}
use Rattle.table.proofs.is_assigned.Goals as goal

pub returns : goal.returns
returns c = assigned_between c.requires.table c.args.x c.args.y c.requires.y_bound c.first_of-from.ensures c.first_of-end.ensures c.contains.result c.contains.ensures.cases
