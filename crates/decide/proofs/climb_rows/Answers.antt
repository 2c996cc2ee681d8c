use Rattle.decide.proofs.Sights.{four_climbs}
use Rattle.decide.proofs.climb_rows.Goals as goal

pub returns : goal.returns
returns c = search (four_climbs, c.requires)
