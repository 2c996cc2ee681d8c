use Rattle.lowest.proofs.Enough.{classes_all}
use Rattle.lowest.proofs.lowest.Goals as goal

pub returns : goal.returns
returns c = search classes_all
