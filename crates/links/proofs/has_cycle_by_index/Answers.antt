use Rattle.links.proofs.Cycle.{cycle_told}
use Rattle.links.proofs.has_cycle_by_index.Goals as goal

pub returns : goal.returns
returns c = search cycle_told
