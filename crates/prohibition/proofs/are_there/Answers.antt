use Rattle.std.proofs.Common.{rules, tests, ◌∙◌}
use Rattle.std.proofs.lemmas.Iterator.{YieldsList-from_slice}
use Rattle.std.proofs.lemmas.Iterator.Search.{all_from_yields_List}
use Rattle.model.specs.Policy.{is_there}
use Rattle.table.specs.View.{policy_of}
use Rattle.prohibition.proofs.Passed.{all_listed}
use Rattle.prohibition.proofs.are_there.Goals as goal

pub returns : goal.returns
returns c = all_from_yields_List (is_there (policy_of c.args.mem.now)) _ _ _ c.all.ensures.ran (YieldsList-from_slice c.args.list.now cc) (λ x b q k. search (rules, tests)) ∙ all_listed (is_there (policy_of c.args.mem.now)) c.args.list.now
