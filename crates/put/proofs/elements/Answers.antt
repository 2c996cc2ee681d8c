-- `put::elements` meets its contract: before each turn the elements below x were put.
-- Assumes nothing.
use borrow.Author.Rules.{rules}
use Rattle.put.proofs.Turns.{elements_start, elements_turn, elements_end}
use Rattle.put.proofs.elements.Goals as goal

pub loop-x-init : goal.loop-x-init
loop-x-init c = elements_start _ (λ k. (c.type_inv.out k).fits) (search rules)

pub loop-x-preserved : goal.loop-x-preserved
loop-x-preserved c = search elements_turn

pub returns : goal.returns
returns c = search elements_end
