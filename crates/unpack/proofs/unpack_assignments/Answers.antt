-- `unpack::unpack_assignments` meets its contract. Assumes nothing.
use Rattle.unpack.proofs.Numbers.{assignments_laid}
use Rattle.unpack.proofs.unpack_assignments.Goals as goal

pub returns : goal.returns
returns c = search assignments_laid
