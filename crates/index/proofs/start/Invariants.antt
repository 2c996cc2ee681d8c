use Rattle.index.specs.Passes.{Seeded}
use Rattle.index.proofs.start.Given as goal

-- the elements below x are seeded
abbrev pub invariant-loop-x : goal.invariant-loop-x
invariant-loop-x l = Seeded l.mem l.x l.idx
