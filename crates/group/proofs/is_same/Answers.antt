use Rattle.group.proofs.Compare.{left_all, same_more, same_other, same_all}
use Rattle.group.proofs.is_same.Goals as goal

pub loop-i-init : goal.loop-i-init
loop-i-init c = search left_all

pub returns-then-rec-i : goal.returns-then-rec-i
returns-then-rec-i c = search same_other

pub loop-i-preserved : goal.loop-i-preserved
loop-i-preserved c = search same_more

pub returns : goal.returns
returns c = search same_all
