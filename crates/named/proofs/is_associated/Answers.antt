use Rattle.std.proofs.Common.{rules, tests, refl, eqb, ◌||◌}
use Rattle.model.specs.Policy.{Association}
use Rattle.table.specs.View.{policy_of, associations_of, association_at}
use Rattle.table.proofs.Chains.{any_over}
use Rattle.named.specs.Uses.{is_associated}
use Rattle.named.proofs.is_associated.Goals as goal

pub returns : goal.returns
unfolding is_associated policy_of associations_of
returns c = any_over (λ (a : Association). eqb a.attribute c.args.x || eqb a.target c.args.x) (association_at c.args.mem.now) _ _ c.any.result _ _ c.association_count-n.ensures refl c.any.ensures.ran (λ x b q k. search (rules, tests))
