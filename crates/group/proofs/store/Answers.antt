use mathlib.Core.Path.{refl}
use Rattle.group.proofs.Moves.{put_laid}
use Rattle.group.proofs.store.Goals as goal

pub returns : goal.returns
returns c = put_laid c.args.at _ c.args.rec.now _ c.args.mem.now c.copy_from_slice.ensures.after refl
