use Rattle.std.proofs.Common.{refl}
use Rattle.held.proofs.Sighted.{lack_climbed}
use Rattle.held.proofs.ClimbedLacking.lack.Goals as goal

pub returns : goal.returns
returns c = lack_climbed _ _ _ _ c.requires.rows refl c.lack_by_climb.ensures
