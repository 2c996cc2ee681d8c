use Rattle.weigh.proofs.Sized.{bits_counted}
use Rattle.weigh.proofs.bit_count.Goals as goal

pub returns : goal.returns
returns c = search bits_counted
