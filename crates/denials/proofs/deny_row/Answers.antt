use Rattle.decide.proofs.Sights.{rows_first, rows_second, rows_third}
use Rattle.denials.proofs.Rows.{row_first, row_second, row_third}
use Rattle.denials.proofs.deny_row.Goals as goal

pub failing_row-r-requires-clause-rows : goal.failing_row-r-requires-clause-rows
failing_row-r-requires-clause-rows c = search rows_first

pub returns-then-r-gt0 : goal.returns-then-r-gt0
returns-then-r-gt0 c = search row_first

pub failing_row-s-requires-clause-rows : goal.failing_row-s-requires-clause-rows
failing_row-s-requires-clause-rows c = search rows_second

pub returns-then-s-gt0 : goal.returns-then-s-gt0
returns-then-s-gt0 c = search row_second

pub failing_row-requires-clause-rows : goal.failing_row-requires-clause-rows
failing_row-requires-clause-rows c = search (rows_third, c.requires.all_rows)

pub returns : goal.returns
returns c = search (row_third, c.requires.sets_value)
