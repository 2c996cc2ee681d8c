use Rattle.pack.proofs.Wholes.{first_put}
use Rattle.pack.proofs.write_first.Goals as goal

pub returns : goal.returns
returns c = search first_put
