use Rattle.index.specs.Passes.{Passed}
use Rattle.table.specs.Layout.{assignment_count}
use Prim.Native.Nat.{◌≤◌}
use Rattle.index.proofs.pass.Given as goal

-- the first i assignments are done
abbrev pub invariant-loop-i : goal.invariant-loop-i
invariant-loop-i l = (l.i ≤ assignment_count l.mem) × Passed l.mem l.i l.initial.idx l.grew l.idx
