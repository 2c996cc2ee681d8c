use Rattle.index.proofs.Rounds.{filled}
use Rattle.index.proofs.complete.Goals as goal

pub returns : goal.returns
returns c = search filled
