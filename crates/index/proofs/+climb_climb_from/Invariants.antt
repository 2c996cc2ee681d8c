use Rattle.std.proofs.Common.{◌≡◌, ◌+◌, ◌*◌, length}
use Rattle.index.specs.Passes.{Climbed}
use Rattle.index.proofs.+climb_climb_from.Given as goal

abbrev pub decreases-climb : goal.decreases-climb
decreases-climb l = 2 * l.deep

abbrev pub decreases-climb_from : goal.decreases-climb_from
decreases-climb_from l = 2 * l.deep + 1

-- some assignments are done
abbrev pub invariant-climb_from-loop-i : goal.invariant-climb_from-loop-i
invariant-climb_from-loop-i l = (length l.seen ≡ 512) × Climbed l.mem l.initial.idx l.idx
