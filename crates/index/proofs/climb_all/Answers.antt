use Rattle.index.proofs.Rounds.{climbed_none, climbed_then}
use native.Mathlib.Omega.{arith}
use Rattle.index.proofs.climb_all.Goals as goal

pub loop-i-init : goal.loop-i-init
loop-i-init c = (omega arith, search climbed_none)

pub loop-i-preserved : goal.loop-i-preserved
loop-i-preserved c = (omega arith, search climbed_then)
