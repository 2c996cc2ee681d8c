-- `screen::are_elements_right` meets its contract: the answer for all elements is that for those from the place p on, above the last id.
-- Assumes nothing.
use Rattle.screen.proofs.Turns.{elements, not_above, element_passes, all_risen}
use Rattle.screen.proofs.are_elements_right.Goals as goal

pub returns-then-id-last : goal.returns-then-id-last
returns-then-id-last c = search (not_above elements)

pub loop-preserved : goal.loop-preserved
loop-preserved c = search element_passes

pub returns : goal.returns
returns c = search (all_risen elements)
