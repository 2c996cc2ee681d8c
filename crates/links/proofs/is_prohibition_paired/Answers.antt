use Rattle.links.proofs.Parts.{prohibition_absent, prohibition_kind}
use Rattle.links.proofs.is_prohibition_paired.Goals as goal

pub returns-then-not-names_absent : goal.returns-then-not-names_absent
returns-then-not-names_absent c = search prohibition_kind

pub returns-else-not-names_absent : goal.returns-else-not-names_absent
returns-else-not-names_absent c = search prohibition_absent
