-- `lines::put_letter` meets its contract: one store.
-- Assumes nothing.
use Rattle.lines.proofs.Texts.{typed_one}
use Rattle.lines.proofs.put_letter.Goals as goal

pub returns : goal.returns
returns c = search typed_one
