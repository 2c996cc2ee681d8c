use Rattle.grants.proofs.Written.{if_none, if_room, if_all}
use Rattle.grants.proofs.put_if.Goals as goal

pub returns-then-not-has_right : goal.returns-then-not-has_right
returns-then-not-has_right c = search if_none

pub put_right-requires-clause-k_in_bounds : goal.put_right-requires-clause-k_in_bounds
put_right-requires-clause-k_in_bounds c = search if_room

pub returns : goal.returns
returns c = search if_all
