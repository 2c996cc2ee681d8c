use Rattle.refusals.proofs.Conditions.{conditions}
use Rattle.refusals.proofs.Prohibitions.{prohibitions}
use Rattle.refusals.proofs.lacks_prohibition.Goals as goal

pub returns-then-names_absent : goal.returns-then-names_absent
returns-then-names_absent c = search (conditions, prohibitions)

pub returns : goal.returns
returns c = search (conditions, prohibitions)
