use Rattle.index.specs.Rows.{RowJoined}
use Prim.Native.Nat.{◌≤◌}
use Rattle.index.proofs.join_row.Given as goal

-- the first k bytes are added
abbrev pub invariant-loop-k : goal.invariant-loop-k
invariant-loop-k l = (l.k ≤ 64) × RowJoined l.idx l.x l.k l.initial.row l.row
