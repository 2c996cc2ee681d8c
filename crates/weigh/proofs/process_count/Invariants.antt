use Rattle.weigh.proofs.Tallied.{TallyTo}
use Rattle.weigh.proofs.Present.{process_tally}
use Rattle.weigh.proofs.process_count.Given as goal

-- those with an id below i are counted
abbrev pub invariant-loop-i : goal.invariant-loop-i
invariant-loop-i l = TallyTo (process_tally l.mem) 256 l.i l.n
