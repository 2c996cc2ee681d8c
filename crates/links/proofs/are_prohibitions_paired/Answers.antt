use Rattle.std.proofs.Common.{rules, tests, refl}
use Rattle.model.specs.Sound.{prohibition_pairs}
use Rattle.table.specs.View.{policy_of, prohibitions_of, prohibition_at}
use Rattle.table.proofs.Chains.{all_over}
use Rattle.links.proofs.are_prohibitions_paired.Goals as goal

pub returns : goal.returns
unfolding policy_of prohibitions_of
returns c = all_over (prohibition_pairs (policy_of c.args.mem.now)) (prohibition_at c.args.mem.now) _ _ c.all.result _ _ c.prohibition_count-n.ensures refl c.all.ensures.ran (λ x b q k. search (rules, tests))
