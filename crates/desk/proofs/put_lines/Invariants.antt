-- `desk::put_lines` meets its contract: before each turn the lines of the bytes before the rest were put, and they have `used` bytes.
-- Assumes nothing.
use Rattle.std.proofs.Common.{◌≡◌}
use Rattle.std.specs.Slice.Iter.{chunks_rest, chunks_size}
use Rattle.table.specs.View.{policy_of}
use Rattle.desk.proofs.Lined.{Lined}
use Rattle.desk.proofs.put_lines.Given as goal

abbrev pub invariant-loop-request : goal.invariant-loop-request
invariant-loop-request l =
    (goal.iterator-loop-request).can_next l.request-iterator × (goal.iterator-loop-request).is_finite l.request-iterator
    × (chunks_size l.request-iterator ≡ 5) × Lined (policy_of l.mem) l.s l.initial.out l.out (chunks_rest l.request-iterator) l.used
