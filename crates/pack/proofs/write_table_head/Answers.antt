use Rattle.pack.proofs.Headed.{head_placed}
use Rattle.pack.proofs.write_table_head.Goals as goal

pub returns : goal.returns
returns c = search head_placed
