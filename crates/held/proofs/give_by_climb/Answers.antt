use Rattle.held.proofs.Associations.{marks_joined}
use Rattle.held.proofs.give_by_climb.Goals as goal

pub returns : goal.returns
returns c = search marks_joined
