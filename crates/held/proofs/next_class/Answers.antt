use Rattle.held.proofs.Passing.{row_start, bytes_more, bytes_found, parts_end}
use Rattle.held.proofs.next_class.Goals as goal

pub loop-d-init : goal.loop-d-init
loop-d-init c = search row_start

pub returns-in-Some : goal.returns-in-Some
returns-in-Some c = bytes_found c.loop-d.invariant c.loop-d-test.true c.in-Some.ensures

pub loop-d-preserved : goal.loop-d-preserved
loop-d-preserved c = bytes_more c.loop-d.invariant c.loop-d-test.true c.in_default.ensures

pub returns : goal.returns
returns c = search parts_end
