use Rattle.pack.proofs.Wholes.{three_put}
use Rattle.pack.proofs.write_rest.Goals as goal

pub returns : goal.returns
returns c = search three_put
