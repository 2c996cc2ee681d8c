-- `climb::climb` meets its contract: the next of the queue is expanded, and the climb goes on behind it.
-- Assumes nothing.
use Rattle.climb.proofs.Steps.{climb_done, head_small, climb_back}
use Rattle.climb.proofs.+climb.Goals as goal

pub returns-then-tail-head-clause-climbed : goal.returns-then-tail-head-clause-climbed
returns-then-tail-head-clause-climbed t c = search climb_done

pub offer_containers-t-requires-clause-x_bound : goal.offer_containers-t-requires-clause-x_bound
offer_containers-t-requires-clause-x_bound t c = search head_small

pub returns-clause-climbed : goal.returns-clause-climbed
returns-clause-climbed t c = search climb_back
