-- `measure::misfits` meets its contract: each return by the place behind the last field.
-- Assumes nothing.
use Rattle.measure.proofs.Judged.{head_cut, end_fits, end_cut, end_longer, end_strays}
use Rattle.measure.proofs.misfits.Goals as goal

pub returns-then-all-lt-HEAD : goal.returns-then-all-lt-HEAD
returns-then-all-lt-HEAD c = search head_cut

pub overflow_add-end : goal.overflow_add-end
overflow_add-end c = search end_fits

pub returns-then-all-end : goal.returns-then-all-end
returns-then-all-end c = search end_cut

pub returns-then-end-all : goal.returns-then-end-all
returns-then-end-all c = search end_longer

pub returns : goal.returns
returns c = search end_strays
