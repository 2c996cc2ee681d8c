use Rattle.climb.proofs.Answered.{told_containment}
use Rattle.climb.proofs.contained.Goals as goal

pub returns : goal.returns
returns c = search told_containment
