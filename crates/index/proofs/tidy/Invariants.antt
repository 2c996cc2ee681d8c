use Rattle.index.specs.Passes.{Tidied}
use Rattle.table.specs.Layout.{assignment_count}
use Prim.Native.Nat.{◌≤◌}
use Rattle.index.proofs.tidy.Given as goal

-- the rows of the children of the first i assignments are tidied
abbrev pub invariant-loop-i : goal.invariant-loop-i
invariant-loop-i l = (l.i ≤ assignment_count l.mem) × Tidied l.mem l.i l.initial.idx l.idx
