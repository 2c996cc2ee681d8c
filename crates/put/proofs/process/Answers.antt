-- `put::process` meets its contract: a process that is not there has no bits, one that is there has 17.
-- Assumes nothing.
use borrow.Author.Rules.{rules}
use Rattle.put.proofs.Turns.{process_none, process_room, process_put}
use Rattle.put.proofs.process.Goals as goal

pub returns-then-user-eq0 : goal.returns-then-user-eq0
returns-then-user-eq0 c = process_none _ _ c.user_of-user.result (search rules) (search rules) (search rules) _ _ (search rules) (λ i. (c.type_inv.out i).fits)

pub write-requires : goal.write-requires
write-requires c = search (process_room, c.if-user-eq0.false)

pub returns : goal.returns
returns c = search (process_put, c.if-user-eq0.false)
