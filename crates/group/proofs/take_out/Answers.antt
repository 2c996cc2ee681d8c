-- `group::take_out` meets its contract. Assumes nothing.
use Rattle.group.proofs.Steps.{taken_out, not_there}
use Rattle.group.proofs.take_out.Goals as goal

pub returns-then-n-at : goal.returns-then-n-at
returns-then-n-at c = search not_there

pub returns : goal.returns
returns c = search taken_out
