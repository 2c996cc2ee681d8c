use Rattle.denials.proofs.Rights.{right_fails}
use Rattle.denials.proofs.failing_row.Goals as goal

pub returns-then-why-gt0 : goal.returns-then-why-gt0
returns-then-why-gt0 c = search right_fails
