-- `store::add_prohibition` meets its contract. Assumes nothing.
use Rattle.store.proofs.ProhibitionStored.{room_for_record, prohibition_added, prohibition_refused}
use Rattle.store.proofs.add_prohibition.Goals as goal

pub returns-then-mem-ge-MOST_PROHIBITIONS : goal.returns-then-mem-ge-MOST_PROHIBITIONS
returns-then-mem-ge-MOST_PROHIBITIONS c = search prohibition_refused

pub add-requires : goal.add-requires
add-requires c = search room_for_record

pub returns : goal.returns
returns c = search prohibition_added
