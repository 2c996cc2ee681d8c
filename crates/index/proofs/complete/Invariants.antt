use Rattle.index.specs.Passes.{Round}
use Rattle.index.specs.Rows.{sum}
use Prim.Native.Nat.{◌-◌, ◌+◌}
use Rattle.index.proofs.complete.Given as goal

-- a round is done, whose pass made the sum grow by `more`
abbrev pub invariant-loop-more : goal.invariant-loop-more
invariant-loop-more l = Round l.mem l.more l.idx

abbrev pub decreases-loop-more : goal.decreases-loop-more
decreases-loop-more l = 8355840 - sum l.idx + l.more
