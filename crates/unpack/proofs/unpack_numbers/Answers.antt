-- `unpack::unpack_numbers` meets its contract. Invariant: the first i numbers are laid. Assumes nothing.
use Rattle.unpack.proofs.Numbers.{number_more}
use Rattle.unpack.proofs.unpack_numbers.Goals as goal

pub loop-i-preserved : goal.loop-i-preserved
loop-i-preserved c = number_more c.args.from c.loop-i.invariant c.requires.room c.loop-i-test.true c.take-number.ensures
