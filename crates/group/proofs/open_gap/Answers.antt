use Rattle.group.proofs.Moves.{moved_none, moved_more, moved_all}
use Rattle.group.proofs.open_gap.Goals as goal

pub loop-i-init : goal.loop-i-init
loop-i-init c = search moved_none

pub loop-i-preserved : goal.loop-i-preserved
loop-i-preserved c = search moved_more

pub returns : goal.returns
returns c = search moved_all
