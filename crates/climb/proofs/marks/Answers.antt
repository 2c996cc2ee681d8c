use Rattle.climb.proofs.Queue.{blank_zeros, closed_none}
use Rattle.climb.proofs.Onward.{first_marks}
use Rattle.climb.proofs.marks.Goals as goal

pub climb_on-requires-clause-closed : goal.climb_on-requires-clause-closed
climb_on-requires-clause-closed c = closed_none _

pub returns : goal.returns
returns c = search (first_marks, blank_zeros)
