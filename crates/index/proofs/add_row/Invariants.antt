use Rattle.index.specs.Rows.{Added}
use Prim.Native.Nat.{◌≤◌}
use Rattle.index.proofs.add_row.Given as goal

-- the first k bytes are added
abbrev pub invariant-loop-k : goal.invariant-loop-k
invariant-loop-k l = (l.k ≤ 64) × Added l.initial.idx l.a l.b l.k l.grew l.idx
