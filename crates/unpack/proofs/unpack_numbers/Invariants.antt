-- `unpack::unpack_numbers` meets its contract. Invariant: the first i numbers are laid. Assumes nothing.
use lib.ListN.{length}
use Rattle.unpack.proofs.Laying.{Laying}
use Rattle.unpack.proofs.Numbers.{numbers_on}
use Rattle.unpack.proofs.unpack_numbers.Given as goal

abbrev pub invariant-loop-i : goal.invariant-loop-i
invariant-loop-i l = Laying (numbers_on l.width l.from) l.width l.n (length l.initial.mem) l.s l.at l.n l.initial.mem l.next.at l.i l.mem
