-- `group::add` meets its contract. Assumes nothing.
use Rattle.group.proofs.Steps.{added}
use Rattle.group.proofs.add.Goals as goal

pub returns : goal.returns
returns c = search added
