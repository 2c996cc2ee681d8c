-- `store::has_prohibition` meets its contract. Assumes nothing.
use Rattle.store.proofs.ProhibitionStored.{prohibition_found}
use Rattle.store.proofs.has_prohibition.Goals as goal

pub returns : goal.returns
returns c = search prohibition_found
