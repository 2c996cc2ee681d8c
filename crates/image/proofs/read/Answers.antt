use Rattle.image.proofs.Judged.{went_uncut, went_judge}
use Rattle.image.proofs.read.Goals as goal

pub is_stowable-requires : goal.is_stowable-requires
is_stowable-requires c = search went_uncut

pub unpack-requires-clause-uncut : goal.unpack-requires-clause-uncut
unpack-requires-clause-uncut c = search went_uncut

pub returns : goal.returns
returns c = search went_judge
