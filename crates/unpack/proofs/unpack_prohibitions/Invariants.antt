-- `unpack::unpack_prohibitions` meets its contract. Invariant: the first i prohibitions are laid, and those left lie within the bits and have
-- short lists. Assumes nothing.
use Rattle.unpack.proofs.Prohibitions.{Passing}
use Rattle.unpack.proofs.unpack_prohibitions.Given as goal

abbrev pub invariant-loop-i : goal.invariant-loop-i
invariant-loop-i l = Passing l.s l.at l.n l.initial.mem l.p l.i l.mem
