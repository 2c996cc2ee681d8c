-- `store::prohibition_record` meets its contract. Assumes nothing.
use mathlib.Core.Path.{refl}
use Rattle.group.proofs.Moves.{put_laid}
use Rattle.store.proofs.ProhibitionStored.{record_written}
use Rattle.store.proofs.prohibition_record.Goals as goal

pub returns : goal.returns
returns c = record_written c.requires (put_laid 3 _ c.args.b.inclusion.now _ _ c.copy_from_slice.ensures.after refl)
    (put_laid _ _ c.args.b.exclusion.now _ _ c.copy_from_slice-2.ensures.after refl)
