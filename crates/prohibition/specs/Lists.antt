-- What is asked of a list of ids.
-- Assumes nothing.
use Rattle.std.specs.Prelude.{Bool, List, ℕ}
use Rattle.model.specs.Lists.{all_of}
use Rattle.model.specs.Policy.{Policy, is_attribute_kind, kind_of}

-- each is an attribute
unfoldable pub are_attributes : Policy → List ℕ → Bool
are_attributes p l = all_of (λ x. is_attribute_kind (kind_of p x)) l
