use Rattle.group.proofs.Compare.{left_all, before_more, before_lower, before_higher, before_equal}
use Rattle.group.proofs.is_before.Goals as goal

pub loop-i-init : goal.loop-i-init
loop-i-init c = search left_all

pub returns-then-rec-i : goal.returns-then-rec-i
returns-then-rec-i c = search before_lower

pub returns-then-mem-at : goal.returns-then-mem-at
returns-then-mem-at c = search before_higher

pub loop-i-preserved : goal.loop-i-preserved
loop-i-preserved c = search before_more

pub returns : goal.returns
returns c = search before_equal
