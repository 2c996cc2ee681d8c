use Rattle.decide.proofs.Sights.{climbed_rows}
use Rattle.decide.proofs.by_climb.Goals as goal

pub choose-requires-clause-all_rows : goal.choose-requires-clause-all_rows
choose-requires-clause-all_rows c = search climbed_rows
