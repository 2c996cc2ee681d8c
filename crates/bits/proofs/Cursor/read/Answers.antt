-- `bits::Cursor::read` meets its contract: both tests that lead to `Cut` say that the bits end before the read does.
-- Assumes nothing.
use Rattle.bits.proofs.Answers.{cut_before, cut_within, read_taken}
use Rattle.bits.proofs.Cursor.read.Goals as goal

pub returns-then-all-at : goal.returns-then-all-at
returns-then-all-at c = search cut_before

pub returns-then-all-at-2 : goal.returns-then-all-at-2
returns-then-all-at-2 c = search cut_within

pub returns : goal.returns
returns c = search read_taken
