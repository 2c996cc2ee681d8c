use Rattle.weigh.proofs.Tallied.{TallyTo}
use Rattle.weigh.proofs.Present.{element_tally}
use Rattle.weigh.proofs.element_count.Given as goal

-- those with an id below x are counted
abbrev pub invariant-loop-x : goal.invariant-loop-x
invariant-loop-x l = TallyTo (element_tally l.mem) 512 l.x l.n
