use Rattle.table.proofs.Asked.{tested}
use Rattle.desk.proofs.Answering.{no_table_lem, no_room, none_printed, cut_printed, request_printed}
use Rattle.desk.proofs.answer.Goals as goal

pub returns-then-not-holds : goal.returns-then-not-holds
returns-then-not-holds c = search no_table_lem

pub returns-then-out-lt-LINE : goal.returns-then-out-lt-LINE
returns-then-out-lt-LINE c = search no_room

pub returns-then-s-eq0 : goal.returns-then-s-eq0
returns-then-s-eq0 c = search none_printed

pub returns-then-s-lt-REQUEST : goal.returns-then-s-lt-REQUEST
returns-then-s-lt-REQUEST c = search cut_printed

pub put_answer-requires-clause-table : goal.put_answer-requires-clause-table
put_answer-requires-clause-table c = search tested

pub returns : goal.returns
returns c = search request_printed
