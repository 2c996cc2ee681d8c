use mathlib.Core.Path.{refl}
use Rattle.std.proofs.Common.{rules, tests}
use Rattle.group.specs.Group.{begins}
use Rattle.group.proofs.Compare.{begins_there}
use Rattle.group.proofs.Found.{first_placed}
use Rattle.group.proofs.find.Goals as goal

pub returns : goal.returns
returns c = rw c.unwrap_or.ensures (first_placed (begins c.args.front.now) c.args.mem.now c.args.base c.args.width c.args.n _ _ c.position.result refl c.position.ensures.ran (λ x b q k. search (rules, tests, begins_there)))
