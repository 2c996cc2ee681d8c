-- How many ids prohibitions list.
-- Assumes nothing.
use Rattle.std.specs.Prelude.{List, [], ◌∷◌, ℕ, ◌+◌, length}
use Rattle.model.specs.Policy.{Prohibition}
use Rattle.model.specs.Sound.{listed}

-- all together
unfoldable pub listed_in : List Prohibition → ℕ
listed_in [] = 0
listed_in (b ∷ l) = length (listed b) + listed_in l
