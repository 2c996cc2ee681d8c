use Rattle.index.proofs.Tidying.{tidied_more}
use native.Mathlib.Omega.{arith}
use Rattle.index.proofs.tidy.Goals as goal

pub loop-i-preserved : goal.loop-i-preserved
loop-i-preserved c = (omega arith, search tidied_more)
