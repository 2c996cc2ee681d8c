use Rattle.decide.proofs.Sights.{index_rows}
use Rattle.decide.proofs.by_index.Goals as goal

pub choose-requires-clause-all_rows : goal.choose-requires-clause-all_rows
choose-requires-clause-all_rows c = search index_rows
