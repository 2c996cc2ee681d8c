use Rattle.index.proofs.Answered.{build_no_table, build_bad_index, build_done}
use Rattle.table.proofs.Asked.{tested}
use Rattle.index.proofs.build.Goals as goal

pub returns-then-not-holds : goal.returns-then-not-holds
returns-then-not-holds c = search build_no_table

pub returns-then-idx-ne32768 : goal.returns-then-idx-ne32768
returns-then-idx-ne32768 c = search build_bad_index

pub fill-requires-clause-table : goal.fill-requires-clause-table
fill-requires-clause-table c = search tested

pub returns : goal.returns
returns c = search build_done
