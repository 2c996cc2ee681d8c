use Rattle.links.proofs.Lifting.{risen_more}
use Rattle.links.proofs.ranks.Goals as goal

pub loop-i-preserved : goal.loop-i-preserved
loop-i-preserved c = search risen_more
