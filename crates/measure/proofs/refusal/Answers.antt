-- `measure::refusal` meets its contract: each return is the first of the two lines that holds.
-- Assumes nothing.
use Rattle.measure.proofs.Numbers.{empty_12, gives_11, long_12, misfit_12, gives_0}
use Rattle.measure.proofs.refusal.Goals as goal

pub returns-then-s-eq0 : goal.returns-then-s-eq0
returns-then-s-eq0 c = search empty_12

pub returns-then-is_other_form : goal.returns-then-is_other_form
returns-then-is_other_form c = search gives_11

pub returns-then-s-gt-LONGEST : goal.returns-then-s-gt-LONGEST
returns-then-s-gt-LONGEST c = search long_12

pub returns-then-misfits : goal.returns-then-misfits
returns-then-misfits c = search misfit_12

pub returns : goal.returns
returns c = search gives_0
