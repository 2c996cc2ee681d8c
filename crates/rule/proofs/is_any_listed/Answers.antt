use Rattle.std.proofs.Common.{rules, refl, ◌+◌}
use Rattle.table.specs.Layout.{word, prohibition_start}
use Rattle.table.proofs.Chains.{any_over}
use Rattle.rule.specs.Sight.{seen}
use Rattle.rule.specs.Parts.{any_listed}
use Rattle.rule.proofs.Ranges.{says, tested}
use Rattle.rule.proofs.is_any_listed.Goals as goal

pub returns : goal.returns
unfolding any_listed
returns g c = any_over (says (seen (g.S.Sight.rows c.args.rows.now) (g.S.Sight.indexed c.args.rows.now) c.args.x) c.args.so) (λ k. word c.args.mem.now (prohibition_start c.args.i + 3 + (c.args.from + k))) _ _ c.any.result _ _ refl refl c.any.ensures.ran (λ x b q k. search (rules, tested))
