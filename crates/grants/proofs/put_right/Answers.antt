use Rattle.grants.proofs.Classes.{write_start, write_more, write_end}
use Rattle.grants.proofs.put_right.Goals as goal

pub loop-c-init : goal.loop-c-init
loop-c-init c = search write_start

pub loop-c-preserved : goal.loop-c-preserved
loop-c-preserved c = write_more c.requires.rows c.loop-c.invariant c.in-Some.ensures c.requires.k_in_bounds c.lowest-names.ensures c.class_row.ensures

pub returns : goal.returns
returns c = write_end c.requires.rows c.loop-c.invariant c.in_default.ensures
