use Rattle.std.proofs.Common.{rules, tests, refl}
use Rattle.model.specs.Sound.{association_fits}
use Rattle.table.specs.View.{policy_of, associations_of, association_at}
use Rattle.table.proofs.Chains.{all_over}
use Rattle.ranges.proofs.are_associations_in_range.Goals as goal

pub returns : goal.returns
unfolding policy_of associations_of
returns c = all_over association_fits (association_at c.args.mem.now) _ _ c.all.result _ _ c.association_count-n.ensures refl c.all.ensures.ran (λ x b q k. search (rules, tests))
