use Rattle.ranges.proofs.Formed.{ill_told, bad_told}
use Rattle.ranges.proofs.is_prohibition_in_range.Goals as goal

pub returns-then-not-is_ill_formed : goal.returns-then-not-is_ill_formed
returns-then-not-is_ill_formed c = search bad_told

pub returns-else-not-is_ill_formed : goal.returns-else-not-is_ill_formed
returns-else-not-is_ill_formed c = search ill_told
