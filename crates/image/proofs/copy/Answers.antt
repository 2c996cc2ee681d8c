use Rattle.image.proofs.Copying.{copied}
use Rattle.image.proofs.copy.Goals as goal

pub returns : goal.returns
returns c = search copied
