use Rattle.model.specs.Lists.{same}
use Rattle.group.proofs.Compare.{Left}
use Rattle.group.proofs.is_same.Given as goal

-- the test of what is left is the test of the whole
abbrev pub invariant-loop-i : goal.invariant-loop-i
invariant-loop-i l = Left same l.mem l.at l.rec l.i
