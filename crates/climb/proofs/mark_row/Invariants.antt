use Rattle.climb.proofs.Rows.{Moved}
use Rattle.climb.proofs.mark_row.Given as goal

-- the first of the queue are moved
abbrev pub invariant-loop-y : goal.invariant-loop-y
invariant-loop-y l = Moved l.k l.y-items l.y-index l.initial.rows l.initial.seen l.rows l.seen
