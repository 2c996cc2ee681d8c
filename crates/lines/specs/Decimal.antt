-- What digits say.
-- Assumes nothing.
use Rattle.std.specs.Prelude.{List, [], ◌∷◌, ℕ, ◌+◌, ◌-◌, ◌*◌}

-- the number v, and digits behind it
unfoldable pub value_from : (v : ℕ) → List ℕ → ℕ
value_from v [] = v
value_from v (d ∷ l) = value_from (10 * v + (d - 48)) l

-- the number that digits say
unfoldable pub value_of : List ℕ → ℕ
value_of l = value_from 0 l
