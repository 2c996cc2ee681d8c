use Rattle.climb.proofs.Queue.{grow_one}
use Rattle.climb.proofs.offer.Goals as goal

pub returns : goal.returns
returns c = search grow_one
