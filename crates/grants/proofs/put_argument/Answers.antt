use Rattle.grants.proofs.Written.{rows_asked, asked_room, asked_all}
use Rattle.grants.proofs.put_argument.Goals as goal

pub put_set-requires-clause-rows : goal.put_set-requires-clause-rows
put_set-requires-clause-rows c = search rows_asked

pub put_set-requires-clause-k_in_bounds : goal.put_set-requires-clause-k_in_bounds
put_set-requires-clause-k_in_bounds c = search asked_room

pub returns : goal.returns
returns c = search asked_all
