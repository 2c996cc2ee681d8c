use Rattle.ranges.proofs.InOrder.{next_room}
use Rattle.ranges.proofs.are_rising.Goals as goal

pub is_before_next-requires-clause-key_bound : goal.is_before_next-requires-clause-key_bound
is_before_next-requires-clause-key_bound c = search next_room
