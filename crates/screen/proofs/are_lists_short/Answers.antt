-- `screen::are_lists_short` meets its contract: the answer for all prohibitions is that for those from the place p on.
-- Assumes nothing.
use Rattle.screen.proofs.Short.{short_start, many_exclusions, both_few}
use Rattle.screen.proofs.are_lists_short.Goals as goal

pub loop-init : goal.loop-init
loop-init c = search short_start

pub returns-then-exclusions-gt-MOST_LISTED : goal.returns-then-exclusions-gt-MOST_LISTED
returns-then-exclusions-gt-MOST_LISTED c = search many_exclusions

pub loop-preserved : goal.loop-preserved
loop-preserved c = search both_few
