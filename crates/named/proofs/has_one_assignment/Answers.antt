use Rattle.named.proofs.Single.{only_one_lem}
use Rattle.named.proofs.has_one_assignment.Goals as goal

pub returns : goal.returns
returns c = search only_one_lem
