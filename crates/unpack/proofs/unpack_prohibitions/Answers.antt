-- `unpack::unpack_prohibitions` meets its contract. Invariant: the first i prohibitions are laid, and those left lie within the bits and have
-- short lists. Assumes nothing.
use native.Mathlib.Omega.{arith}
use Prim.Native.Nat.{◌+◌, ◌*◌}
use Rattle.group.proofs.Moves.{put_laid}
use Rattle.unpack.proofs.Prohibitions.{passing_none, passing_more}
use Rattle.unpack.proofs.unpack_prohibitions.Goals as goal

pub loop-i-init : goal.loop-i-init
loop-i-init c = search passing_none

pub loop-i-preserved : goal.loop-i-preserved
loop-i-preserved c =
    let m = put_laid (5776 + 11 * c.loop-i.i) (5776 + 11 * c.loop-i.i + 11) c.prohibition_at-rec.result c.copy_from_slice.new.self c.loop-i.mem c.copy_from_slice.ensures.after (omega arith) in
    passing_more c.loop-i.invariant (omega arith) c.prohibition_at-rec.ensures m c.listed.ensures
