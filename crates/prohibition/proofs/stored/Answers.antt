use Rattle.prohibition.proofs.Lent.{stored_is}
use Rattle.prohibition.proofs.stored.Goals as goal

pub returns : goal.returns
returns c = search stored_is
