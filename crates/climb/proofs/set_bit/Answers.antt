use Rattle.climb.proofs.Rows.{bit_set}
use Rattle.climb.proofs.set_bit.Goals as goal

pub returns : goal.returns
returns c = search bit_set
