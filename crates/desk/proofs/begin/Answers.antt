use Rattle.desk.proofs.Opening.{loaded_table, other_length, no_room_begun, short_printed, refused_printed, open_printed}
use Rattle.desk.proofs.begin.Goals as goal

pub returns-then-mem-ne-WORDS : goal.returns-then-mem-ne-WORDS
returns-then-mem-ne-WORDS c = search other_length

pub returns-then-out-lt-LINE : goal.returns-then-out-lt-LINE
returns-then-out-lt-LINE c = search no_room_begun

pub returns-then-s-start : goal.returns-then-s-start
returns-then-s-start c = search short_printed

pub put_counts-requires-clause-table : goal.put_counts-requires-clause-table
put_counts-requires-clause-table c = search (loaded_table, c.in-Ok.ensures)

pub returns-in-Ok : goal.returns-in-Ok
returns-in-Ok c = search (open_printed, c.in-Ok.ensures)

pub returns-in-Err : goal.returns-in-Err
returns-in-Err c = search (refused_printed, c.in-Err.ensures)
