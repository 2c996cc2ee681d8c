-- `screen::are_processes_right` meets its contract: the answer for all processes is that for those from the place p on, above the last id.
-- Assumes nothing.
use Rattle.screen.proofs.Turns.{processes, not_above, process_passes, all_risen}
use Rattle.screen.proofs.are_processes_right.Goals as goal

pub returns-then-id-last : goal.returns-then-id-last
returns-then-id-last c = search (not_above processes)

pub loop-preserved : goal.loop-preserved
loop-preserved c = search process_passes

pub returns : goal.returns
returns c = search (all_risen processes)
