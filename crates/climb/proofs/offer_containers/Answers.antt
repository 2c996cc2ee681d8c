use native.Mathlib.Omega.{arith}
use Rattle.climb.proofs.Turns.{turns_start, turn, turns_over, turns_end}
use Rattle.climb.proofs.offer_containers.Goals as goal

pub loop-i-init : goal.loop-i-init
loop-i-init c = (c.first_of-first.ensures.inside, search turns_start)

pub returns-then-x-child_at : goal.returns-then-x-child_at
returns-then-x-child_at c = search turns_over

pub loop-i-preserved : goal.loop-i-preserved
loop-i-preserved c = (
  omega arith,
  turn c.assignment_count-n.ensures c.first_of-first.ensures c.loop-i.auto.i c.loop-i-test.true c.child_at.ensures c.if-x-child_at.false
      c.loop-i.invariant.1 c.container_at.ensures c.offer-t.ensures,
)

pub returns : goal.returns
returns c = search turns_end
