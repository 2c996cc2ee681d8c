use Rattle.index.proofs.Rounds.{stepped}
use Rattle.index.proofs.step.Goals as goal

pub returns : goal.returns
returns c = search stepped
