use Rattle.image.proofs.Saving.{no_room}
use Rattle.image.proofs.save.Goals as goal

pub returns-then-out-n : goal.returns-then-out-n
returns-then-out-n c = search no_room
