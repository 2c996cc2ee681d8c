use Rattle.pack.proofs.Headed.{head_put}
use Rattle.pack.proofs.write_head.Goals as goal

pub returns : goal.returns
returns c = search head_put
