use Rattle.store.proofs.Stored.{assignments_taken}
use Rattle.store.proofs.take_assignments_of.Goals as goal

pub returns : goal.returns
returns c = search assignments_taken
