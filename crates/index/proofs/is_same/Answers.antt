use Rattle.index.proofs.Alike.{compared_filled}
use Rattle.index.proofs.is_same.Goals as goal

pub returns : goal.returns
returns c = search compared_filled
