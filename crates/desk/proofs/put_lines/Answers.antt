-- `desk::put_lines` meets its contract: before each turn the lines of the bytes before the rest were put, and they have `used` bytes.
-- Assumes nothing.
use Rattle.desk.proofs.Lined.{lines_end}
use Rattle.desk.proofs.put_lines.Goals as goal

pub returns : goal.returns
returns c = lines_end c.loop-request.invariant.3 c.requires.s_in_bounds c.in-None.ensures.steps.1.0
