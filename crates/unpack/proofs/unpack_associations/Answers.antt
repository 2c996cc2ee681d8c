-- `unpack::unpack_associations` meets its contract. Invariant: the first i associations are laid. Assumes nothing.
use Rattle.unpack.proofs.Turns.{association_more}
use Rattle.unpack.proofs.unpack_associations.Goals as goal

pub loop-i-preserved : goal.loop-i-preserved
loop-i-preserved c = search association_more
