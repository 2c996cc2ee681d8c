use Rattle.climb.proofs.Answered.{told_mark}
use Rattle.climb.proofs.by_marks.Goals as goal

pub returns : goal.returns
returns c = search told_mark
