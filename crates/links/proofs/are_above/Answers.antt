use Rattle.std.proofs.Common.{rules, tests, refl}
use Rattle.table.specs.View.{policy_of, assignments_of, assignment_at}
use Rattle.table.proofs.Chains.{all_over}
use Rattle.links.specs.Ranks.{is_above}
use Rattle.links.proofs.are_above.Goals as goal

pub returns : goal.returns
unfolding is_above policy_of assignments_of
returns c = all_over (is_above c.args.ranks.now) (assignment_at c.args.mem.now) _ _ c.all.result _ _ c.assignment_count-n.ensures refl c.all.ensures.ran (λ x b q k. search (rules, tests))
