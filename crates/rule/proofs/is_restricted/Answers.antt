use Rattle.std.proofs.Common.{rules, tests, refl}
use Rattle.model.specs.Rule.{restricts, restricted_by}
use Rattle.table.specs.View.{policy_of, prohibitions_of, prohibition_at}
use Rattle.table.proofs.Chains.{any_over}
use Rattle.rule.specs.Sight.{seen}
use Rattle.rule.proofs.is_restricted.Goals as goal

pub returns : goal.returns
unfolding restricted_by policy_of prohibitions_of
returns g c = any_over (restricts (seen (g.S.Sight.rows c.args.rows.now) (g.S.Sight.indexed c.args.rows.now) c.args.q.by) (seen (g.S.Sight.rows c.args.rows.now) (g.S.Sight.indexed c.args.rows.now) c.args.q.over) (policy_of c.args.mem.now) c.args.q.process c.args.q.user c.args.q.right c.args.q.element) (prohibition_at c.args.mem.now) _ _ c.any.result _ _ c.prohibition_count-n.ensures refl c.any.ensures.ran (λ x b q k. search (rules, tests))
