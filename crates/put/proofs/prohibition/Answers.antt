-- `put::prohibition` meets its contract: its bits are those of its first three words and of the words of its ids.
-- Assumes nothing.
use Rattle.put.proofs.Turns.{limits_room, prohibition_put}
use Rattle.put.proofs.prohibition.Goals as goal

pub limits-p-requires-clause-reaches : goal.limits-p-requires-clause-reaches
limits-p-requires-clause-reaches c = search limits_room

pub returns : goal.returns
returns c = search prohibition_put
