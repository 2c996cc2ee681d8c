-- `put::prohibitions` meets its contract: before each turn the first i prohibitions were put.
-- Assumes nothing.
use borrow.Author.Rules.{rules}
use Rattle.put.proofs.Turns.{prohibitions_start, prohibitions_turn, prohibitions_end}
use Rattle.put.proofs.prohibitions.Goals as goal

pub loop-i-init : goal.loop-i-init
loop-i-init c = prohibitions_start _ _ (search rules) (λ k. (c.type_inv.out k).fits) (search rules)

pub loop-i-preserved : goal.loop-i-preserved
loop-i-preserved c = search prohibitions_turn

pub returns : goal.returns
returns c = search prohibitions_end
