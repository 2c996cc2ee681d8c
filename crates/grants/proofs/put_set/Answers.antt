use Rattle.decide.proofs.Left.{left_whole, left_next}
use Rattle.grants.proofs.Written.{set_start, set_room, set_more, set_end}
use native.Mathlib.Omega.{arith}
use Rattle.grants.proofs.put_set.Goals as goal

pub loop-left-init : goal.loop-left-init
loop-left-init c = (left_whole (omega arith), search set_start)

pub put_if-t-requires-clause-r_in_bounds : goal.put_if-t-requires-clause-r_in_bounds
put_if-t-requires-clause-r_in_bounds c = search set_room

pub loop-left-preserved : goal.loop-left-preserved
loop-left-preserved c = (search left_next, search set_more)

pub returns : goal.returns
returns c = search set_end
