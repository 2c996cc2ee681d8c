-- `screen::are_lists_short` meets its contract: the answer for all prohibitions is that for those from the place p on.
-- Assumes nothing.
use lib.ListN.{drop}
use Rattle.model.specs.Bits.{bits_of}
use Rattle.model.specs.Image.{read_prohibition, read_group}
use Rattle.screen.specs.Stowable.{all_short}
use Rattle.screen.proofs.Short.{ShortTo}
use Rattle.screen.proofs.are_lists_short.Given as goal

abbrev pub invariant-loop : goal.invariant-loop
invariant-loop l = ShortTo (all_short (read_group read_prohibition l.n (drop l.at (bits_of l.s))).value) l.s l.n l.p l.counter
