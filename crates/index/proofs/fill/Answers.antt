use Rattle.index.proofs.Exactly.{exactly}
use Rattle.index.proofs.fill.Goals as goal

pub returns : goal.returns
returns c = search exactly
