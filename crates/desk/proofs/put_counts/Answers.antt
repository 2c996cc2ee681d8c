use Rattle.desk.proofs.Opening.{counts_put}
use Rattle.desk.proofs.put_counts.Goals as goal

pub returns : goal.returns
returns c = search counts_put
