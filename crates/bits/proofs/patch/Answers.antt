-- `bits::patch` meets its contract: what is put together is below 2 ^ 8, so nothing is lost.
-- Assumes nothing.
use Rattle.bits.proofs.Turns.{patched_byte}
use Rattle.bits.proofs.patch.Goals as goal

pub overflow_cast-result : goal.overflow_cast-result
overflow_cast-result c = record { fits = search patched_byte }
