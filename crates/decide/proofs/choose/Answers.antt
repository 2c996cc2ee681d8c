use Rattle.decide.proofs.Chosen.{told_first, told_only_first, told_second, told_neither}
use Rattle.decide.proofs.choose.Goals as goal

pub returns-then-is_satisfied : goal.returns-then-is_satisfied
returns-then-is_satisfied g c = search told_first

pub returns-then-second-eq0 : goal.returns-then-second-eq0
returns-then-second-eq0 g c = search told_only_first

pub returns-then-is_satisfied-2 : goal.returns-then-is_satisfied-2
returns-then-is_satisfied-2 g c = search told_second

pub returns : goal.returns
returns g c = search told_neither
