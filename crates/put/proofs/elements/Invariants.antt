-- `put::elements` meets its contract: before each turn the elements below x were put.
-- Assumes nothing.
use Rattle.put.specs.Put.{element_bits_at}
use Rattle.put.proofs.Filling.{Filling}
use Rattle.put.proofs.elements.Given as goal

abbrev pub invariant-loop-x : goal.invariant-loop-x
invariant-loop-x l = Filling l.initial.out l.out l.at (element_bits_at l.mem) 1 512 l.x l.p
