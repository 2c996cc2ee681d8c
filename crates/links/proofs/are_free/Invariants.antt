use Rattle.links.proofs.Free.{FreeTo}
use Rattle.links.proofs.are_free.Given as goal

abbrev pub invariant-loop-x : goal.invariant-loop-x
invariant-loop-x l = FreeTo l.mem l.from l.to l.free l.x
