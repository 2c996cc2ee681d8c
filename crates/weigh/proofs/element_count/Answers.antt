use Rattle.weigh.proofs.Tallied.{tally_fits}
use Rattle.weigh.proofs.Present.{elements_none, elements_more, elements_all}
use Rattle.weigh.proofs.element_count.Goals as goal

pub loop-x-init : goal.loop-x-init
loop-x-init c = elements_none _

pub overflow_add-n : goal.overflow_add-n
overflow_add-n c = search tally_fits

pub loop-x-preserved : goal.loop-x-preserved
loop-x-preserved c = search elements_more

pub returns : goal.returns
returns c = search elements_all
