-- `put::processes` meets its contract: before each turn the processes below i were put.
-- Assumes nothing.
use Rattle.put.specs.Put.{process_bits_at}
use Rattle.put.proofs.Filling.{Filling}
use Rattle.put.proofs.processes.Given as goal

abbrev pub invariant-loop-i : goal.invariant-loop-i
invariant-loop-i l = Filling l.initial.out l.out l.at (process_bits_at l.mem) 1 256 l.i l.p
