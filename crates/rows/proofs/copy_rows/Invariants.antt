-- In a turn the next row is stored.
-- Assumes nothing.
use Rattle.std.proofs.Common.{◌≡◌}
use Rattle.rows.proofs.Filled.{filled}
use Rattle.rows.proofs.copy_rows.Given as goal

abbrev pub invariant-loop-i : goal.invariant-loop-i
invariant-loop-i l = l.rows ≡ filled l.initial.rows l.numbers l.i
