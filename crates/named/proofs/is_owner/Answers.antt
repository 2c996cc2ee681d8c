use Rattle.std.proofs.Common.{rules, tests, refl, eqb}
use Rattle.model.specs.Policy.{user_of}
use Rattle.table.specs.View.{policy_of}
use Rattle.table.proofs.Chains.{any_between}
use Rattle.named.proofs.Owned.{owner_among}
use Rattle.named.proofs.is_owner.Goals as goal

pub returns : goal.returns
returns c = owner_among c.args.mem.now c.args.x c.requires.le_x (any_between (λ u. eqb u c.args.x) (user_of (policy_of c.args.mem.now)) _ _ c.any.result _ _ _ refl refl c.any.ensures.ran (λ x b q k. search (rules, tests)))
