-- `put::associations` meets its contract: before each turn the first i associations were put.
-- Assumes nothing.
use borrow.Author.Rules.{rules}
use Rattle.put.proofs.Turns.{associations_start, association_turn, associations_end}
use Rattle.put.proofs.associations.Goals as goal

pub loop-i-init : goal.loop-i-init
loop-i-init c = associations_start _ _ (search rules) (λ k. (c.type_inv.out k).fits) (search rules)

pub loop-i-preserved : goal.loop-i-preserved
loop-i-preserved c = search association_turn

pub returns : goal.returns
returns c = search associations_end
