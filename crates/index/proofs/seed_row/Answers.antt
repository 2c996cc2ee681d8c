use Rattle.index.proofs.Seeds.{seed_one}
use Rattle.index.proofs.seed_row.Goals as goal

pub returns : goal.returns
returns c = search seed_one
