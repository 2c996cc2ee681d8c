-- `measure::behind` meets its contract: in each turn so many prohibitions are passed, up to the place p.
-- Assumes nothing.
use Rattle.measure.proofs.Passing.{cut_within}
use Rattle.measure.proofs.behind.Goals as goal

pub returns-then-all-p : goal.returns-then-all-p
returns-then-all-p c = search cut_within
