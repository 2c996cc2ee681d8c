-- Text among bytes.
-- Assumes nothing.
use Rattle.std.specs.Prelude.{◌≡◌, List, ◌++◌, ℕ, ◌+◌, length, take, drop}

-- text was put at a place among the bytes s, which became the bytes t; the place behind it
pub record Typed (text : List ℕ) (at : ℕ) (s t : List ℕ) (next : ℕ) : Type 0 where
  pub bytes_are : t ≡ take at s ++ (text ++ drop (at + length text) s)
  pub next_is : next ≡ at + length text
  pub long : length t ≡ length s
