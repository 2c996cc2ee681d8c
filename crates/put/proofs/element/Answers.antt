-- `put::element` meets its contract: an element that is not there has no bits, one that is there has 12.
-- Assumes nothing.
use borrow.Author.Rules.{rules}
use Rattle.put.proofs.Turns.{element_none, element_room, element_put}
use Rattle.put.proofs.element.Goals as goal

pub returns-then-kind-eq0 : goal.returns-then-kind-eq0
returns-then-kind-eq0 c = element_none _ _ c.kind_of-kind.result (search rules) (search rules) (search rules) _ _ (search rules) (λ i. (c.type_inv.out i).fits)

pub write-requires : goal.write-requires
write-requires c = search (element_room, c.if-kind-eq0.false)

pub returns : goal.returns
returns c = search (element_put, c.if-kind-eq0.false)
