use Rattle.index.proofs.Rounds.{passed_more}
use native.Mathlib.Omega.{arith}
use Rattle.index.proofs.pass.Goals as goal

pub loop-i-preserved : goal.loop-i-preserved
loop-i-preserved c = (omega arith, search passed_more)
