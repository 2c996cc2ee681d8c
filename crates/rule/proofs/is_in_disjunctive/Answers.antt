use Rattle.rule.proofs.Ranges.{disjunctive_outside}
use Rattle.rule.proofs.is_in_disjunctive.Goals as goal

pub returns-else-is_any_listed : goal.returns-else-is_any_listed
returns-else-is_any_listed g c = search disjunctive_outside
