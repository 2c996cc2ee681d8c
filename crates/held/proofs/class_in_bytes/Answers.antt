use Rattle.held.proofs.Passing.{bytes_zero}
use Rattle.held.proofs.class_in_bytes.Goals as goal

pub returns-then-are_zero_bytes : goal.returns-then-are_zero_bytes
returns-then-are_zero_bytes c = search bytes_zero
