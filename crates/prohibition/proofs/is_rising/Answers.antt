use Rattle.std.proofs.Common.{rules, tests}
use Rattle.std.proofs.lemmas.List.Sorted.{answers_always}
use lib.Dec.{ltb}
use Rattle.prohibition.proofs.Passed.{rising_ids_lem}
use Rattle.prohibition.proofs.is_rising.Goals as goal

pub returns : goal.returns
returns c = rising_ids_lem c.args.list.now c.is_sorted_by.result (c.is_sorted_by.ensures.cases ltb (answers_always _ _ _ (λ f a r g h. search (rules, tests))))
