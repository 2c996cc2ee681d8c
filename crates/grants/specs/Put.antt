-- Rows written one after another into lent rows.
-- Assumes nothing.
use Rattle.std.specs.Prelude.{◌≡◌, List, ℕ, ◌+◌, length}
use Rattle.std.proofs.lemmas.List.Edits.{sets}

-- some rows stand from place `at` on, the next place is at', and every other row stays
pub record Put (out : List (List ℕ)) (at : ℕ) (rows out' : List (List ℕ)) (at' : ℕ) : Type 0 where
  pub is : out' ≡ sets out at rows
  pub next : at' ≡ at + length rows
  pub size : length out' ≡ length out
