use Rattle.std.proofs.lemmas.Result.{err_from_is_err_and}
use Rattle.image.proofs.Loading.{other_length, image_refused, image_ended, image_stored}
use Rattle.image.proofs.load.Goals as goal

pub returns-then-mem-ne-WORDS : goal.returns-then-mem-ne-WORDS
returns-then-mem-ne-WORDS c = search other_length

pub returns-in_err-read : goal.returns-in_err-read
returns-in_err-read c =
    let p = err_from_is_err_and c.from_residual.result c.from_residual.ensures.1 in
    rw (p.1, p.2) (image_refused _ _ _ _ c.if-mem-ne-WORDS.false c.in_err-read.ensures)

pub copy-requires-clause-ended : goal.copy-requires-clause-ended
copy-requires-clause-ended c = image_ended _ _ c.in_ok-read.ensures

pub returns : goal.returns
returns c = image_stored _ _ _ _ c.if-mem-ne-WORDS.false c.in_ok-read.ensures c.copy.ensures
