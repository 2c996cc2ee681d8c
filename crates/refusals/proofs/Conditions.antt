-- Conditions of lines, by what was told of them or of what they are made of.
-- Assumes nothing.
use mathlib.Core.Path.{◌≡◌, refl, sym, ap, ◌∙◌}
use mathlib.Core.Bool.{Bool, true, false, not, ◌&&◌, ◌||◌}

-- a condition has the value that was told of it
pub told : {r a t : Bool} → r ≡ a → r ≡ t → a ≡ t
told e h = sym e ∙ h

-- the same of a condition that is negated
pub told_not : {r a t : Bool} → r ≡ a → not r ≡ t → not a ≡ t
told_not e h = ap not (sym e) ∙ h

-- not both hold exactly if one of them does not
not_both : (a b : Bool) → not (a && b) ≡ (not a || not b)
not_both true b = refl
not_both false b = refl

-- the same of two that must hold
pub told_not_both : {r t : Bool} (a b : Bool) → r ≡ (a && b) → not r ≡ t → (not a || not b) ≡ t
told_not_both a b e h = sym (not_both a b) ∙ told_not e h

-- where a test is told, so is its opposite
pub opposite : {r a : Bool} → r ≡ a → not r ≡ not a
opposite e = ap not e

-- the same of two that must hold
pub opposite_both : {r : Bool} (a b : Bool) → r ≡ (a && b) → not r ≡ (not a || not b)
opposite_both a b e = ap not e ∙ not_both a b

-- Of two conditions:
module _ (a b : Bool) where
  -- the first holds
  pub first_holds : a ≡ true → (a || b) ≡ true
  first_holds h = rw h

  -- the second does
  pub second_holds : a ≡ false → b ≡ true → (a || b) ≡ true
  second_holds h i = rw h i

  -- neither does
  pub neither_holds : a ≡ false → b ≡ false → (a || b) ≡ false
  neither_holds h i = rw h i

  -- the first holds: told that one does
  pub tells_so : a ≡ true → true ≡ (a || b)
  tells_so h = rw h

  -- the first does not: the second tells
  pub tells_second : {s : Bool} → a ≡ false → s ≡ b → s ≡ (a || b)
  tells_second h e = rw h e

pub ruleset conditions = (told, told_not, told_not_both, opposite, opposite_both, first_holds, second_holds, neither_holds, tells_so, tells_second)
