use Rattle.std.proofs.Common.{rules, tests, refl}
use Rattle.model.specs.Policy.{Assignment}
use Rattle.model.specs.Index.{bit_at}
use Rattle.table.specs.View.{policy_of, assignments_of, assignment_at}
use Rattle.table.proofs.Chains.{any_over}
use Rattle.links.specs.Returning.{returns_by}
use Rattle.links.proofs.returns_by.Goals as goal

pub returns : goal.returns
unfolding returns_by policy_of assignments_of
returns c = any_over (λ (a : Assignment). bit_at c.args.idx.now a.container a.child) (assignment_at c.args.mem.now) _ _ c.any.result _ _ c.assignment_count-n.ensures refl c.any.ensures.ran (λ x b q k. search (rules, tests))
