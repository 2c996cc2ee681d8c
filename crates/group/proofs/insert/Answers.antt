use Rattle.group.proofs.Changes.{inserted}
use Rattle.group.proofs.insert.Goals as goal

pub returns : goal.returns
returns c = search inserted
