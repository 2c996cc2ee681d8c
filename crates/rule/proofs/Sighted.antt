-- What a set of rights holds and what a row says, as the code reads them.
-- Assumes nothing.
use mathlib.Core.Path.{◌≡◌, refl}
use mathlib.Core.Bool.{Bool, true, false}
use mathlib.Core.Logic.{inr}
use mathlib.Core.List.{List}
use Prim.Native.Nat.{ℕ, ◌/◌, ◌%◌, ◌^◌, ◌≤◌, ◌<◌}
use native.Mathlib.Omega.{arith}
use native.Mathlib.Decide.{dec_lt}
use borrow.Author.Tests.{lt-ltb, le-ltb}
use lib.Dec.{eqb, ltb}
use Rattle.model.specs.Policy.{has_right}
use Rattle.model.specs.Index.{bit_at}
use Rattle.table.specs.View.{policy_of}
use Rattle.table.proofs.ById.{kind_outside}
use Rattle.rule.specs.Parts.{class_of}
use Rattle.rule.specs.Sight.{mark_at, seen}

-- a right of a set
pub right_read : (rights r : ℕ) → eqb (rights / 2 ^ r % 2) 1 ≡ has_right rights r
unfolding has_right
right_read rights r = refl

module _ (rows : List ℕ) (x y : ℕ) where
  -- no row has a mark 512
  pub mark_far : 512 ≤ y → ltb y 512 ≡ mark_at rows x y
  unfolding mark_at
  mark_far h = rw (le-ltb y 512 h)

  -- the mark is the bit
  pub mark_read : y < 512 → {b : Bool} → b ≡ bit_at rows x y → b ≡ mark_at rows x y
  unfolding mark_at
  mark_read h e = rw (lt-ltb y 512 h) e

  -- a row of an index
  pub sees_bit : {indexed : Bool} → indexed ≡ true → {b : Bool} → b ≡ bit_at rows x y → b ≡ seen rows indexed x y
  unfolding seen
  sees_bit h e = rw h e

  -- a row of marks
  pub sees_mark : {indexed : Bool} → indexed ≡ false → {b : Bool} → b ≡ mark_at rows x y → b ≡ seen rows indexed x y
  unfolding seen
  sees_mark h e = rw h e

-- a class of the element of a row, whether the row is taken for one of marks or of an index: no class has an id above 511
pub class_either : (mem rows : List ℕ) (x c : ℕ) → class_of (seen rows false x) (policy_of mem) c ≡ class_of (seen rows true x) (policy_of mem) c
unfolding class_of seen mark_at
class_either mem rows x c = elim (dec_lt c 512) [
  | yes s ↦ rw (lt-ltb c 512 s) refl
  | no s ↦ let far : 511 < c = omega arith in rw (← kind_outside mem c (inr far)) refl
]
