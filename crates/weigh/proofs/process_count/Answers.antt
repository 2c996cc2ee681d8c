use Rattle.weigh.proofs.Tallied.{tally_fits}
use Rattle.weigh.proofs.Present.{processes_none, processes_more, processes_all}
use Rattle.weigh.proofs.process_count.Goals as goal

pub loop-i-init : goal.loop-i-init
loop-i-init c = processes_none _

pub overflow_add-n : goal.overflow_add-n
overflow_add-n c = search tally_fits

pub loop-i-preserved : goal.loop-i-preserved
loop-i-preserved c = search processes_more

pub returns : goal.returns
returns c = search processes_all
