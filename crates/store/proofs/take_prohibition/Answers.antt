-- `store::take_prohibition` meets its contract. Assumes nothing.
use Rattle.store.proofs.ProhibitionStored.{prohibition_taken}
use Rattle.store.proofs.take_prohibition.Goals as goal

pub returns : goal.returns
returns c = search prohibition_taken
