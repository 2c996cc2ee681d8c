use Rattle.index.specs.Passes.{Climbed}
use lib.ListN.{length}
use mathlib.Core.Path.{◌≡◌}
use Rattle.index.proofs.climb_all.Given as goal

-- some assignments are done
abbrev pub invariant-loop-i : goal.invariant-loop-i
invariant-loop-i l = (length l.seen ≡ 512) × Climbed l.mem l.initial.idx l.idx
