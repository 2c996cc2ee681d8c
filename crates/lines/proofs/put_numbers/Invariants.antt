-- `lines::put_numbers` meets its contract: before each turn the first i numbers were put, each in at most eleven bytes.
-- Assumes nothing.
use Prim.Native.Nat.{◌+◌, ◌*◌, ◌≤◌}
use lib.ListN.{take}
use Rattle.lines.specs.Typing.{Typed}
use Rattle.lines.proofs.Lengths.{spaced}
use Rattle.lines.proofs.put_numbers.Given as goal

abbrev pub invariant-loop-n : goal.invariant-loop-n
invariant-loop-n l = (l.next ≤ l.at + 11 * l.n-index) × Typed (spaced (take l.n-index l.ns)) l.at l.initial.out l.out l.next
