use Rattle.weigh.proofs.Sized.{bytes_counted}
use Rattle.weigh.proofs.byte_count.Goals as goal

pub returns : goal.returns
returns c = search bytes_counted
