use Rattle.links.proofs.Free.{free_none, free_more, free_all}
use Rattle.links.proofs.are_free.Goals as goal

pub loop-x-init : goal.loop-x-init
loop-x-init c = search free_none

pub loop-x-preserved : goal.loop-x-preserved
loop-x-preserved c = search free_more

pub returns : goal.returns
returns c = search free_all
