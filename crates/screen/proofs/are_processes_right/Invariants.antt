-- `screen::are_processes_right` meets its contract: the answer for all processes is that for those from the place p on, above the last id.
-- Assumes nothing.
use lib.ListN.{drop}
use Rattle.model.specs.Bits.{bits_of}
use Rattle.model.specs.Image.{read_process, read_group}
use Rattle.screen.specs.Stowable.{processes_right}
use Rattle.screen.proofs.Turns.{RisenTo, processes}
use Rattle.screen.proofs.are_processes_right.Given as goal

abbrev pub invariant-loop : goal.invariant-loop
invariant-loop l = RisenTo processes (processes_right (read_group read_process l.n (drop l.at (bits_of l.s))).value) l.s l.n l.last l.next.at l.counter
