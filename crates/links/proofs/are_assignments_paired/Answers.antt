use Rattle.std.proofs.Common.{rules, tests, refl}
use Rattle.model.specs.Sound.{assignment_pairs}
use Rattle.table.specs.View.{policy_of, assignments_of, assignment_at}
use Rattle.table.proofs.Chains.{all_over}
use Rattle.links.proofs.are_assignments_paired.Goals as goal

pub returns : goal.returns
unfolding policy_of assignments_of
returns c = all_over (assignment_pairs (policy_of c.args.mem.now)) (assignment_at c.args.mem.now) _ _ c.all.result _ _ c.assignment_count-n.ensures refl c.all.ensures.ran (λ x b q k. search (rules, tests))
