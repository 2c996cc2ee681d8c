-- `lines::put_numbers` meets its contract: before each turn the first i numbers were put, each in at most eleven bytes.
-- Assumes nothing.
use native.Mathlib.Omega.{arith}
use Rattle.lines.proofs.Turns.{numbers_start, numbers_turn, numbers_end}
use Rattle.lines.proofs.put_numbers.Goals as goal

pub loop-n-init : goal.loop-n-init
loop-n-init c = (omega arith, search numbers_start)

pub loop-n-preserved : goal.loop-n-preserved
loop-n-preserved c = (omega arith, search numbers_turn)

pub returns : goal.returns
returns c = search numbers_end
