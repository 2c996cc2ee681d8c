-- `unpack::unpack` meets its contract. Assumes nothing.
use Rattle.unpack.proofs.Whole.{all_laid}
use Rattle.unpack.proofs.unpack.Goals as goal

pub returns : goal.returns
returns c = search all_laid
