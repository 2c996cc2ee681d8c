-- `unpack::unpack_associations` meets its contract. Invariant: the first i associations are laid. Assumes nothing.
use Rattle.unpack.proofs.Laying.{Laying}
use Rattle.unpack.proofs.Turns.{associations_on}
use Rattle.unpack.proofs.unpack_associations.Given as goal

abbrev pub invariant-loop-i : goal.invariant-loop-i
invariant-loop-i l = Laying associations_on 50 1000 8192 l.s l.at l.n l.initial.mem l.next.at l.i l.mem
