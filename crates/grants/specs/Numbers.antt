-- The rows of a grant, as numbers: one for each argument, right and containing class, rising, with the lowest authorizing association.
-- Assumes nothing.
use Rattle.std.specs.Prelude.{false, cond, List, [], ◌∷◌, ◌++◌, map, ℕ, get_or}
use Rattle.model.specs.Lists.{those}
use Rattle.model.specs.Policy.{Association, Policy, has_right}
use Rattle.model.specs.Contain.{contained}
use Rattle.model.specs.Rule.{classes_of, gives}
use Rattle.model.specs.Explain.{lowest_association, joined}
use Rattle.request.specs.Sets.{rights_in}
use Rattle.request.specs.declared.Request.{Request}
use Rattle.rule.specs.declared.Asking.{Asking}
use Rattle.lowest.specs.Named.{named}
use Rattle.decide.specs.Asks.{asking_of, with_right}

-- the lowest association that authorizes the right over the element in class c
unfoldable pub lowest_in : Policy → Asking → (c : ℕ) → Association
lowest_in p q c =
    lowest_association (those (gives (contained p q.user) (contained p q.element) (contained p) q.right c) p.associations)

-- the row of a right over the argument at position k in class c
unfoldable pub class_numbers : Policy → Asking → (alternative k c : ℕ) → List ℕ
class_numbers p q alternative k c =
    alternative ∷ k ∷ q.right ∷ 0 ∷ c ∷ (lowest_in p q c).attribute ∷ (lowest_in p q c).target ∷ (lowest_in p q c).rights ∷ []

-- the same row, with the association that a name names
abbrev pub named_numbers : (mem : List ℕ) (name : ℕ) → Asking → (alternative k c : ℕ) → List ℕ
named_numbers mem name q alternative k c =
    alternative ∷ k ∷ q.right ∷ 0 ∷ c ∷ (named mem name).attribute ∷ (named mem name).target ∷ (named mem name).rights ∷ []

-- the rows of a right, one for each class
unfoldable pub right_numbers : Policy → Asking → (alternative k : ℕ) → List (List ℕ)
right_numbers p q alternative k = map (class_numbers p q alternative k) (classes_of (contained p q.element) p)

-- the rows of right r, if it is in the set
unfoldable pub if_rows : Policy → Asking → (rights alternative k r : ℕ) → List (List ℕ)
if_rows p q rights alternative k r = cond (has_right rights r) (right_numbers p (with_right q r) alternative k) []

-- the rows of the rights of a set
unfoldable pub set_numbers : Policy → Asking → (rights alternative k : ℕ) → List (List ℕ)
set_numbers p q rights alternative k = joined (λ r. right_numbers p (with_right q r) alternative k) (rights_in rights)

-- the rows of an alternative
unfoldable pub grant_numbers : Policy → Request → (user alternative : ℕ) (sets : List ℕ) → List (List ℕ)
grant_numbers p q user alternative sets =
    set_numbers p (asking_of q user false q.first 1 0) (get_or sets 0 0) alternative 1
    ++ (set_numbers p (asking_of q user false q.second 2 0) (get_or sets 1 0) alternative 2
    ++ set_numbers p (asking_of q user false q.third 3 0) (get_or sets 2 0) alternative 3)
