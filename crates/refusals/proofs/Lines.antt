-- The number of a call's lines, line by line.
-- Assumes nothing.
use mathlib.Core.Path.{◌≡◌, refl}
use mathlib.Core.Bool.{Bool, true, false}
use mathlib.Core.List.{List, [], ◌∷◌}
use Prim.Native.Nat.{ℕ}
use Rattle.model.specs.Refusal.{Line, ◌when◌, refusal}
use Rattle.refusals.proofs.Conditions.{told, told_not, told_not_both}

-- The lines that begin with this one.
module _ (n : ℕ) (b : Bool) (ls : List Line) where
  -- it holds: its number
  pub stops : b ≡ true → n ≡ refusal ((n when b) ∷ ls)
  unfolding refusal
  stops h = rw h

  -- it does not: the others tell
  pub goes_on : b ≡ false → {k : ℕ} → k ≡ refusal ls → k ≡ refusal ((n when b) ∷ ls)
  unfolding refusal
  goes_on h e = rw h e

-- no line is left: 0
pub ends : 0 ≡ refusal []
unfolding refusal
ends = refl

pub ruleset lines = (stops, goes_on, ends, told, told_not, told_not_both)
