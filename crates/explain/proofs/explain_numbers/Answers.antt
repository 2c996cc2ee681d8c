use Rattle.std.proofs.Common.{arith, ap, not}
use Rattle.request.proofs.Accepts.{accepted_known}
use Rattle.explain.proofs.Answered.{explained_accepted}
use Rattle.explain.proofs.explain_numbers.Goals as goal

pub explain_accepted-requires-clause-accepted : goal.explain_accepted-requires-clause-accepted
explain_accepted-requires-clause-accepted c = accepted_known _ _ c.in_ok-refusal.ensures (omega arith)

pub returns : goal.returns
returns c = explained_accepted _ _ _ c.holds.ensures (ap not c.if-not-holds.false) c.in_ok-refusal.ensures _ c.explain_accepted.ensures
