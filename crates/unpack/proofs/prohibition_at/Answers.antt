-- `unpack::prohibition_at` meets its contract. Assumes nothing.
use Rattle.unpack.proofs.Records.{record_numbers}
use Rattle.unpack.proofs.prohibition_at.Goals as goal

pub returns : goal.returns
returns c = search record_numbers
