use Rattle.table.proofs.Empty.{zeros_marked}
use Rattle.table.proofs.mark.Goals as goal

pub returns : goal.returns
returns c = search zeros_marked
