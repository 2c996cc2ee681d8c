-- `measure::behind` meets its contract: in each turn so many prohibitions are passed, up to the place p.
-- Assumes nothing.
use Rattle.measure.proofs.Passing.{Passed}
use Rattle.measure.proofs.behind.Given as goal

abbrev pub invariant-loop : goal.invariant-loop
invariant-loop l = Passed l.s l.at l.n l.all l.p l.counter
