use Rattle.grants.proofs.Counted.{rows_first, rows_second, rows_third, grant_counted}
use Rattle.grants.proofs.count_rows.Goals as goal

pub count_set-first-requires-clause-rows : goal.count_set-first-requires-clause-rows
count_set-first-requires-clause-rows c = search rows_first

pub count_set-second-requires-clause-rows : goal.count_set-second-requires-clause-rows
count_set-second-requires-clause-rows c = search rows_second

pub count_set-third-requires-clause-rows : goal.count_set-third-requires-clause-rows
count_set-third-requires-clause-rows c = search rows_third

pub returns : goal.returns
returns c = search grant_counted
