use Rattle.lowest.proofs.Enough.{enough_start, enough_class, enough_next, enough_marked, enough_more, enough_all, enough_named, enough_end}
use Rattle.std.proofs.Common.{arith}
use Rattle.lowest.proofs.lowest_of_rising.Goals as goal
use Rattle.lowest.proofs.lowest_of_rising.Goals.{else-loop-names-test, then-loop-names-test+in_default-next}

pub loop-c-init : goal.loop-c-init
loop-c-init c = search enough_start

pub loop-names-init : goal.loop-names-init
loop-names-init c = enough_class c.loop-c.invariant c.requires.rows c.in-Some.ensures

pub name_first-tail-requires-clause-i_bound : goal.name_first-tail-requires-clause-i_bound
name_first-tail-requires-clause-i_bound c = enough_next c.loop-names.invariant (c.in-Some-next.ensures).steps

pub name_first-tail-requires-clause-lowest_marked : goal.name_first-tail-requires-clause-lowest_marked
name_first-tail-requires-clause-lowest_marked c = enough_marked c.loop-names.invariant (c.in-Some-next.ensures).steps

pub loop-names-preserved : goal.loop-names-preserved
loop-names-preserved c = enough_more c.loop-names.invariant (c.in-Some-next.ensures).steps c.name_first-tail.ensures

pub loop-c-preserved : goal.loop-c-preserved
loop-c-preserved c = elim c.loop-names-test.branch [
  | else-loop-names-test w ↦ rw w.associations-is (enough_named c.loop-names.invariant (c.in-Some.ensures).early w.loop-names-test.false)
  | then-loop-names-test+in_default-next w ↦
      let none = (w.in_default-next.ensures).steps in
      rw (w.associations-is, none.0, none.1.1) (enough_all c.loop-names.invariant (c.in-Some.ensures).early (omega (arith, none.1.0)))
]

pub returns : goal.returns
returns c = enough_end c.loop-c.invariant c.requires.mem_value c.requires.rows c.in_default.ensures
