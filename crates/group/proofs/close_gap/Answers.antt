use Rattle.group.proofs.Moves.{closed_none, closed_more, closed_all}
use Rattle.group.proofs.close_gap.Goals as goal

pub loop-i-init : goal.loop-i-init
loop-i-init c = search closed_none

pub loop-i-preserved : goal.loop-i-preserved
loop-i-preserved c = search closed_more

pub returns : goal.returns
returns c = search closed_all
