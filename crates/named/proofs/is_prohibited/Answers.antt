use Rattle.std.proofs.Common.{rules, tests, refl}
use Rattle.model.specs.Command.{prohibition_names_element}
use Rattle.table.specs.View.{policy_of, prohibitions_of, prohibition_at}
use Rattle.table.proofs.Chains.{any_over}
use Rattle.named.specs.Uses.{is_prohibited}
use Rattle.named.proofs.is_prohibited.Goals as goal

pub returns : goal.returns
unfolding is_prohibited policy_of prohibitions_of
returns c = any_over (prohibition_names_element c.args.x) (prohibition_at c.args.mem.now) _ _ c.any.result _ _ c.prohibition_count-n.ensures refl c.any.ensures.ran (λ x b q k. search (rules, tests))
