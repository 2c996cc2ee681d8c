use Rattle.std.proofs.Common.{◌-◌, ◌∙◌, refl, rules, tests}
use Rattle.std.proofs.lemmas.Iterator.{YieldsList-from_range}
use Rattle.std.proofs.lemmas.Iterator.Search.{all_from_yields_List}
use Rattle.lowest.specs.Named.{is_before}
use Rattle.lowest.proofs.InOrder.{rise_where}
use Rattle.lowest.proofs.are_rising.Goals as goal

pub returns : goal.returns
returns c =
    all_from_yields_List {v = λ x. x} (λ i. is_before c.args.mem.now (i - 1) i) _ _ c.all.result c.all.ensures.ran (YieldsList-from_range 1 _ _ refl refl) (λ x b q k. search (rules, tests))
    ∙ rise_where _ _ c.association_count-n.ensures
