-- The bits of a head, by its counts.
-- Assumes nothing.
use Rattle.std.specs.Prelude.{Bool, List, ◌++◌, ℕ}
use Rattle.model.specs.Bits.{bits_n}

-- the bits of a head with these counts
unfoldable pub head_of : (elements assignments associations prohibitions processes : ℕ) → List Bool
head_of elements assignments associations prohibitions processes =
    bits_n 4 1 ++ (bits_n 9 elements ++ (bits_n 11 assignments ++ (bits_n 10 associations ++ (bits_n 8 prohibitions ++ bits_n 8 processes))))
