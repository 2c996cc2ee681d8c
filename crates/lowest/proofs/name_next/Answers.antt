use Rattle.lowest.proofs.Taken.{taken_lowered}
use Rattle.lowest.proofs.name_next.Goals as goal

pub returns : goal.returns
returns c = search taken_lowered
