use Rattle.std.proofs.Common.{rules, tests, refl, eqb}
use Rattle.model.specs.Policy.{Assignment}
use Rattle.table.specs.View.{policy_of, assignments_of, assignment_at}
use Rattle.table.proofs.Chains.{any_over}
use Rattle.named.specs.Uses.{is_container}
use Rattle.named.proofs.is_container.Goals as goal

pub returns : goal.returns
unfolding is_container policy_of assignments_of
returns c = any_over (λ (a : Assignment). eqb a.container c.args.x) (assignment_at c.args.mem.now) _ _ c.any.result _ _ c.assignment_count-n.ensures refl c.any.ensures.ran (λ x b q k. search (rules, tests))
