use Rattle.climb.proofs.Onward.{front_on, climbed_on}
use Rattle.climb.proofs.climb_on.Goals as goal

pub climb-requires-clause-front : goal.climb-requires-clause-front
climb-requires-clause-front c = search front_on

pub returns-clause-further : goal.returns-clause-further
returns-clause-further c = search climbed_on
