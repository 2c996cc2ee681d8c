-- 01, "Containment and the decision", first paragraph: what is within what.
-- Assumes nothing.
use Rattle.std.specs.Prelude.{Bool, not, cond, ◌&&◌, List, [], ◌∷◌, ◌++◌, ℕ, zero, suc, length}
use Rattle.model.specs.Lists.{In, empty, member}
use Rattle.model.specs.Policy.{Assignment, Policy}

-- some assignment has x for its child and y for its container
abbrev pub Assigned : List Assignment → (x y : ℕ) → Type 0
Assigned l x y = In (record { child = x; container = y }) l

-- "x is *within* y if x is y or a chain of assignments leads from x to y.": `itself`, x is within x; `above`, where x is assigned to y and y is
-- within z, x is within z
pub data Within (l : List Assignment) : ℕ → ℕ → Type 0 where
  itself : {x : ℕ} → Within l x x
  above : {x y z : ℕ} → Assigned l x y → Within l y z → Within l x z

-- a chain of one assignment or more
pub data Chain (l : List Assignment) : ℕ → ℕ → Type 0 where
  link : {x y z : ℕ} → Assigned l x y → Within l y z → Chain l x z

-- The same, computed. The containers of what is found that are not found yet:
unfoldable pub further : List Assignment → List ℕ → List ℕ
further [] found = []
further (a ∷ l) found = cond (member a.child found && not (member a.container found)) (a.container ∷ further l found) (further l found)

-- they are added, again and again, until there is none; as many rounds as there are assignments suffice
unfoldable pub climbed : ℕ → List Assignment → List ℕ → List ℕ
climbed zero l found = found
climbed (suc n) l found =
    let next = further l found in
    let rest = climbed n l (next ++ found) in
    cond (empty next) found rest

-- x is within y
unfoldable pub within : List Assignment → (x y : ℕ) → Bool
within l x y = member y (climbed (length l) l (x ∷ []))

-- in a policy
abbrev pub contained : Policy → (x y : ℕ) → Bool
contained p x y = within p.assignments x y
