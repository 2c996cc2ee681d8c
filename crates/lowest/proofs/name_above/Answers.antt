use Rattle.lowest.proofs.Above.{lowered_more, lowered_all}
use Rattle.lowest.proofs.name_above.Goals as goal

pub loop-c-preserved : goal.loop-c-preserved
loop-c-preserved c = search lowered_more

pub returns : goal.returns
returns c = search lowered_all
