use Rattle.std.proofs.Common.{rules, tests, refl, eqb}
use Rattle.table.proofs.Chains.{any_over}
use Rattle.named.proofs.Mentions.{id_at, member_listed}
use Rattle.named.proofs.lists.Goals as goal

pub returns : goal.returns
unfolding id_at
returns c = member_listed c.args.mem.now c.args.i c.inclusion_count_at.ensures c.exclusion_count_at.ensures c.args.x (any_over (λ y. eqb y c.args.x) (id_at c.args.mem.now c.args.i) _ _ c.any.result _ _ refl refl c.any.ensures.ran (λ x b q k. search (rules, tests)))
