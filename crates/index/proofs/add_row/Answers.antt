use Rattle.index.proofs.Rows.{added_more}
use Rattle.std.proofs.Common.{arith, get_or, ◌+◌, ◌*◌, ◌<◌}
use Rattle.index.proofs.Bytes.{joined}
use Rattle.index.proofs.add_row.Goals as goal

pub loop-k-preserved : goal.loop-k-preserved
loop-k-preserved c =
    let p : get_or c.loop-k.idx (64 * c.args.a + c.loop-k.k) 0 < 256 = omega arith in
    let q : get_or c.loop-k.idx (64 * c.args.b + c.loop-k.k) 0 < 256 = omega arith in
    (omega arith, added_more c.requires.idx_len c.requires.a_bound c.requires.b_bound c.loop-k.invariant.1 c.loop-k-test.true (joined _ _ p q) c.from-grew.ensures)
