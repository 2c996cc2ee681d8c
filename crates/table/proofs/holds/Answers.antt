use Rattle.table.proofs.Test.{other_length, other_mark, many_assignments, many_associations, many_prohibitions, out_of_order, short_decides}
use Rattle.table.proofs.holds.Goals as goal

pub returns-then-mem-ne-WORDS : goal.returns-then-mem-ne-WORDS
returns-then-mem-ne-WORDS c = search other_length

pub returns-then-mem-ne-MARK : goal.returns-then-mem-ne-MARK
returns-then-mem-ne-MARK c = search other_mark

pub returns-then-mem-gt-MOST_ASSIGNMENTS : goal.returns-then-mem-gt-MOST_ASSIGNMENTS
returns-then-mem-gt-MOST_ASSIGNMENTS c = search many_assignments

pub returns-then-mem-gt-MOST_ASSOCIATIONS : goal.returns-then-mem-gt-MOST_ASSOCIATIONS
returns-then-mem-gt-MOST_ASSOCIATIONS c = search many_associations

pub returns-then-mem-gt-MOST_PROHIBITIONS : goal.returns-then-mem-gt-MOST_PROHIBITIONS
returns-then-mem-gt-MOST_PROHIBITIONS c = search many_prohibitions

pub returns-then-not-are_in_order : goal.returns-then-not-are_in_order
returns-then-not-are_in_order c = search out_of_order

pub returns : goal.returns
returns c = search short_decides
