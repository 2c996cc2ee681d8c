use Rattle.desk.proofs.Answering.{lines_printed}
use Rattle.desk.proofs.answer_all.Goals as goal

pub returns : goal.returns
returns c = search lines_printed
