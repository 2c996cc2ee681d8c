use Rattle.std.proofs.Common.{arith}
use Rattle.request.proofs.Accepts.{accepted_known}
use Rattle.decide.proofs.decide_indexed.Goals as goal

pub by_index-requires-clause-accepted : goal.by_index-requires-clause-accepted
by_index-requires-clause-accepted c = accepted_known _ _ c.in_ok-refusal.ensures (omega arith)
