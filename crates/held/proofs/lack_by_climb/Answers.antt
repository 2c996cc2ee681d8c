use Rattle.held.proofs.Turns.{marked_start, marked_class, marked_end, marked_given, marked_lacks}
use Rattle.held.proofs.lack_by_climb.Goals as goal

pub classes-init : goal.classes-init
classes-init c = search marked_start

pub loop-given-init : goal.loop-given-init
loop-given-init c = marked_class c.classes.invariant c.in-Some.ensures

pub classes-preserved : goal.classes-preserved
classes-preserved c = search marked_given

pub returns-in_default : goal.returns-in_default
returns-in_default c = marked_end c.classes.invariant c.in_default.ensures

pub returns-in_default-next : goal.returns-in_default-next
returns-in_default-next c = marked_lacks c.loop-given.invariant (c.in_default-next.ensures).steps.1.0 c.loop-given-test.true
