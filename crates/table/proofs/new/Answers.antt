use Rattle.table.proofs.Empty.{new_cleared}
use Rattle.table.proofs.new.Goals as goal

pub mark-requires : goal.mark-requires
mark-requires c = search new_cleared
