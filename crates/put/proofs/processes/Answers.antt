-- `put::processes` meets its contract: before each turn the processes below i were put.
-- Assumes nothing.
use borrow.Author.Rules.{rules}
use Rattle.put.proofs.Turns.{processes_start, processes_turn, processes_end}
use Rattle.put.proofs.processes.Goals as goal

pub loop-i-init : goal.loop-i-init
loop-i-init c = processes_start _ (λ k. (c.type_inv.out k).fits) (search rules)

pub loop-i-preserved : goal.loop-i-preserved
loop-i-preserved c = search processes_turn

pub returns : goal.returns
returns c = search processes_end
