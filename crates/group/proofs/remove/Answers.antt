use Rattle.group.proofs.Changes.{closing, removed}
use native.Mathlib.Omega.{arith}
use Rattle.group.proofs.remove.Goals as goal

pub close_gap-requires : goal.close_gap-requires
close_gap-requires c = let r = closing c.args.at c.args.k c.requires.fits c.requires.k_bound in omega arith

pub clear-requires : goal.clear-requires
clear-requires c = let r = closing c.args.at c.args.k c.requires.fits c.requires.k_bound in omega arith

pub returns : goal.returns
returns c = removed c.args.base c.args.width c.args.counter c.args.at c.args.k c.args.mem.now c.requires.fits c.requires.k_bound c.close_gap.ensures c.clear.ensures
