use Rattle.lowest.proofs.Taken.{taken_start}
use Rattle.lowest.proofs.lowest_of_any.Goals as goal

pub loop-i-init : goal.loop-i-init
loop-i-init c = taken_start _ _
