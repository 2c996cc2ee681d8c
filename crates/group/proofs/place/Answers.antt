use mathlib.Core.Path.{refl}
use Rattle.std.proofs.Common.{rules, tests, length}
use Rattle.model.specs.Lists.{before}
use Rattle.group.proofs.Found.{first_placed}
use Rattle.group.proofs.place.Goals as goal

pub returns : goal.returns
returns c = rw (← c.unwrap_or.ensures) at (first_placed (before c.args.rec.now) c.args.mem.now c.args.base (length c.args.rec.now) c.args.n _ _ c.position.result refl c.position.ensures.ran (λ x b q k. search (rules, tests)))
