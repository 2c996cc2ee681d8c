-- `screen::are_elements_right` meets its contract: the answer for all elements is that for those from the place p on, above the last id.
-- Assumes nothing.
use lib.ListN.{drop}
use Rattle.model.specs.Bits.{bits_of}
use Rattle.model.specs.Image.{read_element, read_group}
use Rattle.screen.specs.Stowable.{elements_right}
use Rattle.screen.proofs.Turns.{RisenTo, elements}
use Rattle.screen.proofs.are_elements_right.Given as goal

abbrev pub invariant-loop : goal.invariant-loop
invariant-loop l = RisenTo elements (elements_right (read_group read_element l.n (drop l.at (bits_of l.s))).value) l.s l.n l.last l.next.at l.counter
