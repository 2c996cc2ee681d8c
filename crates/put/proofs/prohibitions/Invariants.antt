-- `put::prohibitions` meets its contract: before each turn the first i prohibitions were put.
-- Assumes nothing.
use Rattle.put.proofs.Runs.{prohibition_bits_at}
use Rattle.put.proofs.Filling.{Filling}
use Rattle.put.proofs.prohibitions.Given as goal

abbrev pub invariant-loop-i : goal.invariant-loop-i
invariant-loop-i l = Filling l.initial.out l.out l.at (prohibition_bits_at l.mem) 0 l.i-end l.i l.p
