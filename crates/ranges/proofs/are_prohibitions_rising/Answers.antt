use Rattle.std.proofs.Common.{rules, tests, refl, Bool, ◌-◌}
use Rattle.table.proofs.Chains.{all_between}
use Rattle.ranges.proofs.Ordered.{is_next, prohibitions_rise_if}
use Rattle.ranges.proofs.are_prohibitions_rising.Goals as goal

pub returns : goal.returns
unfolding is_next
returns c = prohibitions_rise_if c.requires c.prohibition_count-n.ensures (all_between (λ (b : Bool). b) (λ i. is_next c.args.mem.now (i - 1)) _ _ c.all.result 1 _ _ refl refl c.all.ensures.ran (λ x b q k. search (rules, tests)))
