-- `rows::copy_rows` meets its contract: all the rows are stored.
-- Assumes nothing.
use Rattle.std.proofs.Common.{◌≡◌, ap, arith, ◌∙◌}
use Rattle.rows.proofs.Filled.{filled, filled_over}
use Rattle.rows.proofs.copy_rows.Goals as goal

pub returns : goal.returns
returns c =
    let e : c.loop-i.i ≡ c.args.n = omega arith in
    c.loop-i.invariant ∙ ap (filled c.args.rows.now c.args.numbers.now) e ∙ filled_over c.args.rows.now c.args.numbers.now c.args.n c.requires.0 c.requires.1
