use Rattle.held.proofs.Turns.{bit_start, bit_class, bit_end, bit_given}
use Rattle.held.proofs.lack_by_index.Goals as goal

pub classes-init : goal.classes-init
classes-init c = search bit_start

pub loop-from-init : goal.loop-from-init
loop-from-init c = bit_class c.classes.invariant c.in-Some.ensures

pub classes-preserved : goal.classes-preserved
classes-preserved c = search bit_given

pub returns-in_default : goal.returns-in_default
returns-in_default c = bit_end c.classes.invariant c.in_default.ensures
