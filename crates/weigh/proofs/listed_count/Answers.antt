use native.Mathlib.Omega.{arith}
use Rattle.std.proofs.Common.{rules, length, ◌^◌}
use Rattle.model.specs.Sound.{listed}
use Rattle.table.specs.View.{prohibition_at}
use Rattle.table.proofs.Chains.{sum_over, sum_over_fits}
use Rattle.weigh.proofs.Listing.{listed_both, listed_fit, listed_all}
use Rattle.weigh.proofs.listed_count.Goals as goal

pub sum-requires-clause-fits : goal.sum-requires-clause-fits
sum-requires-clause-fits c = sum_over_fits (λ b. length (listed b)) (prohibition_at c.args.mem.now) c.map.result _ _ _ c.prohibition_count.ensures c.map.ensures.source c.map.ensures.closure (λ x k q w. search (rules, listed_both)) (2 ^ 64) (omega (arith, listed_fit c.requires))

pub returns : goal.returns
returns c = listed_all c.requires (sum_over (λ b. length (listed b)) (prohibition_at c.args.mem.now) c.map.result _ _ _ c.prohibition_count.ensures c.map.ensures.source c.map.ensures.closure (λ x k q w. search (rules, listed_both)) c.sum.result c.sum.ensures.ran)
