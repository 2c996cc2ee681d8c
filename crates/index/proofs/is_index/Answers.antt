use Rattle.index.proofs.Answered.{match_told}
use Rattle.index.proofs.is_index.Goals as goal

pub returns : goal.returns
returns c = search match_told
