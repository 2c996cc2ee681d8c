use Rattle.rule.proofs.Ranges.{range_class, range_disjunctive, range_conjunctive}
use Rattle.rule.proofs.is_in_range.Goals as goal

pub returns-then-kind_of-eq5 : goal.returns-then-kind_of-eq5
returns-then-kind_of-eq5 g c = search range_class

pub returns-then-form_at-eq0 : goal.returns-then-form_at-eq0
returns-then-form_at-eq0 g c = search range_disjunctive

pub returns-else-form_at-eq0 : goal.returns-else-form_at-eq0
returns-else-form_at-eq0 g c = search range_conjunctive
