-- The measure of `climb` is how many places of the queue are left.
-- Assumes nothing.
use Rattle.std.proofs.Common.{◌-◌}
use Rattle.climb.proofs.+climb.Given as goal

abbrev pub decreases-climb : goal.decreases-climb
decreases-climb l = 512 - l.head
