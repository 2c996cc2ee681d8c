use Rattle.denials.proofs.Reasons.{why_unasked, why_asked}
use Rattle.decide.proofs.Allowed.{rows_with_right, right_with_right}
use Rattle.denials.proofs.why_in.Goals as goal

pub returns-then-not-has_right : goal.returns-then-not-has_right
returns-then-not-has_right c = search why_unasked

pub why-requires-clause-rows : goal.why-requires-clause-rows
why-requires-clause-rows c = search rows_with_right

pub why-requires-clause-right_bound : goal.why-requires-clause-right_bound
why-requires-clause-right_bound c = search right_with_right

pub returns : goal.returns
returns c = search why_asked
