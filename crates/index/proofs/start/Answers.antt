use Rattle.index.proofs.Seeds.{seeded}
use Rattle.index.proofs.start.Goals as goal

pub returns : goal.returns
returns c = search seeded
