-- The sums that the test programs print.
-- Assumes nothing.
use Rattle.std.specs.Prelude.{ℕ, ◌+◌, ◌*◌, ◌%◌, ◌^◌}

-- the sum with a word more
abbrev pub mixed : (sum word : ℕ) → ℕ
mixed sum word = ((sum * 1103515245 % 2 ^ 32 + word) % 2 ^ 32 + 12345) % 2 ^ 32
