use Rattle.climb.proofs.Queue.{closed_blank}
use Rattle.climb.proofs.Rows.{moved_none, moved_more, moved_all, moved_blank}
use Rattle.climb.proofs.mark_row.Goals as goal

pub climb_on-n-requires-clause-closed : goal.climb_on-n-requires-clause-closed
climb_on-n-requires-clause-closed c = search closed_blank

pub loop-y-init : goal.loop-y-init
loop-y-init c = moved_none _ _ _ _

pub loop-y-preserved : goal.loop-y-preserved
loop-y-preserved c = search moved_more

pub returns-clause-row_marked : goal.returns-clause-row_marked
returns-clause-row_marked c = search moved_all

pub returns-clause-blank_after : goal.returns-clause-blank_after
returns-clause-blank_after c = search moved_blank
