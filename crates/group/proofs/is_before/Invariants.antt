use Rattle.model.specs.Lists.{before}
use Rattle.group.proofs.Compare.{Left}
use Rattle.group.proofs.is_before.Given as goal

-- the test of what is left is the test of the whole
abbrev pub invariant-loop-i : goal.invariant-loop-i
invariant-loop-i l = Left before l.mem l.at l.rec l.i
