use Rattle.lowest.proofs.Queued.{queued_next}
use Rattle.lowest.proofs.name_queued.Goals as goal

pub loop-c-preserved : goal.loop-c-preserved
loop-c-preserved c = search queued_next
