use Rattle.std.proofs.Common.{length}
use Rattle.try_image.proofs.run.Given as goal

abbrev pub decreases-loop-s : goal.decreases-loop-s
decreases-loop-s l = length l.rest
