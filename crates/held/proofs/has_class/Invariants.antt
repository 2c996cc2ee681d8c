use Rattle.held.proofs.Eights.{ClassTo}
use Rattle.held.proofs.has_class.Given as goal

abbrev pub invariant-loop-k : goal.invariant-loop-k
invariant-loop-k l = ClassTo l.mem l.from l.some l.k
