use Rattle.decide.proofs.Chosen.{first_denied, second_denied, third_decides}
use Rattle.decide.proofs.is_satisfied.Goals as goal

pub returns-then-not-are_allowed : goal.returns-then-not-are_allowed
returns-then-not-are_allowed g c = search first_denied

pub returns-then-not-are_allowed-2 : goal.returns-then-not-are_allowed-2
returns-then-not-are_allowed-2 g c = search second_denied

pub returns : goal.returns
returns g c = search third_decides
