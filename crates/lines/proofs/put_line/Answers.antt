-- `lines::put_line` meets its contract: the letter, and the numbers behind it.
-- Assumes nothing.
use Rattle.lines.proofs.Turns.{line_put, line_short}
use Rattle.lines.proofs.put_line.Goals as goal

pub returns-clause-typed : goal.returns-clause-typed
returns-clause-typed c = search line_put

pub returns-clause-upper_bound : goal.returns-clause-upper_bound
returns-clause-upper_bound c = search line_short
