use Rattle.desk.proofs.Answering.{denial_put}
use Rattle.desk.proofs.put_denial.Goals as goal

pub returns : goal.returns
returns c = search denial_put
