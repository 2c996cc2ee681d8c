use Prim.Native.Nat.{min}
use Rattle.std.proofs.Common.{◌∙◌, refl, arith, rules, tests}
use Rattle.std.proofs.lemmas.Iterator.{YieldsList-from_range, YieldsList-from_map}
use Rattle.std.proofs.lemmas.Iterator.Consumers.{YieldsList-at, YieldsList-from_filter}
use Rattle.table.specs.View.{policy_of, prohibition_at}
use Rattle.denials.specs.Causes.{restricts_through}
use Rattle.denials.proofs.Subjects.{calls_reduce, lowest_told}
use Rattle.denials.proofs.lowest_subject.Goals as goal

pub returns : goal.returns
returns c =
    calls_reduce _ min (λ a x b q k. search rules)
    (YieldsList-from_map _ (λ i. (prohibition_at c.args.mem.now i).subject)
    (YieldsList-at c.map.ensures.source (YieldsList-from_filter _ (λ i. restricts_through (policy_of c.args.mem.now) c.args.q c.args.sort (prohibition_at c.args.mem.now i))
    (YieldsList-at c.filter.ensures.source (YieldsList-from_range 0 _ c.prohibition_count-n.result refl (omega arith))) c.filter.ensures.closure (λ x b q k. search (rules, tests))))
    c.map.ensures.closure (λ x r q k. search rules))
    c.reduce.result c.reduce.ensures.ran
    ∙ lowest_told _ _ _ c.prohibition_count-n.ensures
