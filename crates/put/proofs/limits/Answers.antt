-- `put::limits` meets its contract: three numbers one behind another.
-- Assumes nothing.
use Rattle.put.proofs.Turns.{limits_put}
use Rattle.put.proofs.limits.Goals as goal

pub returns : goal.returns
returns c = search limits_put
