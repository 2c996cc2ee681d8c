use Rattle.std.proofs.Common.{rules, tests, refl}
use Rattle.model.specs.Command.{process_in_use}
use Rattle.table.specs.View.{policy_of, prohibitions_of, prohibition_at}
use Rattle.table.proofs.Chains.{any_over}
use Rattle.named.specs.Uses.{names_process}
use Rattle.named.proofs.is_process_in_use.Goals as goal

pub returns : goal.returns
unfolding process_in_use policy_of prohibitions_of
returns c = any_over (names_process c.args.i) (prohibition_at c.args.mem.now) _ _ c.any.result _ _ c.prohibition_count-n.ensures refl c.any.ensures.ran (λ x b q k. search (rules, tests))
