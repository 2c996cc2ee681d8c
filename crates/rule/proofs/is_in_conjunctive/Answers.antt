use Rattle.rule.proofs.Ranges.{conjunctive_within, conjunctive_outside}
use Rattle.rule.proofs.is_in_conjunctive.Goals as goal

pub returns-then-not-is_any_listed : goal.returns-then-not-is_any_listed
returns-then-not-is_any_listed g c = search conjunctive_within

pub returns-else-not-is_any_listed : goal.returns-else-not-is_any_listed
returns-else-not-is_any_listed g c = search conjunctive_outside
