use Rattle.std.proofs.Common.{rules, tests, ◌∙◌}
use Rattle.std.proofs.lemmas.Iterator.{YieldsList-from_slice}
use Rattle.std.proofs.lemmas.Iterator.Search.{all_from_yields_List}
use Rattle.model.specs.Policy.{is_attribute_kind, kind_of}
use Rattle.table.specs.View.{policy_of}
use Rattle.prohibition.specs.Lists.{are_attributes}
use Rattle.prohibition.proofs.Passed.{all_listed}
use Rattle.prohibition.proofs.are_attributes.Goals as goal

pub returns : goal.returns
unfolding are_attributes
returns c = all_from_yields_List (λ x. is_attribute_kind (kind_of (policy_of c.args.mem.now) x)) _ _ _ c.all.ensures.ran (YieldsList-from_slice c.args.list.now cc) (λ x b q k. search (rules, tests)) ∙ all_listed (λ x. is_attribute_kind (kind_of (policy_of c.args.mem.now) x)) c.args.list.now
