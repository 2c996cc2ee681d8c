use Rattle.table.proofs.Checks.{short_none, short_more}
use Rattle.table.proofs.have_short_lists.Goals as goal

pub loop-i-init : goal.loop-i-init
loop-i-init c = short_none _ _

pub loop-i-preserved : goal.loop-i-preserved
loop-i-preserved c = search short_more
