-- `put::assignments` meets its contract: the bits of the assignments are those of their words.
-- Assumes nothing.
use Rattle.put.proofs.Turns.{assignments_room, assignments_put}
use Rattle.put.proofs.assignments.Goals as goal

pub numbers-requires-clause-reaches : goal.numbers-requires-clause-reaches
numbers-requires-clause-reaches c = search assignments_room

pub returns : goal.returns
returns c = search assignments_put
