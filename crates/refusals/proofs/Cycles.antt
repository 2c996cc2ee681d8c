-- Whether an assignment would close a cycle: the mark of the child among all that the container is within.
-- Assumes nothing.
use mathlib.Core.Path.{◌≡◌, refl, ap, ◌∙◌}
use mathlib.Core.Bool.{Bool, true, false, ◌||◌}
use mathlib.Core.List.{List}
use Prim.Native.Nat.{ℕ, ◌<◌}
use borrow.Author.Tests.{eqb-true}
use lib.Dec.{eqb}
use lib.ListN.{get_or}
use Rattle.model.specs.Policy.{Policy}
use Rattle.model.specs.Contain.{itself, contained}
use Rattle.model.specs.Bits.{digit}
use Rattle.model.proofs.Contained.{within_when}
use Rattle.table.specs.View.{policy_of}
use Rattle.climb.specs.Marking.{marks_of}
use Rattle.climb.proofs.Exactly.{mark_digit}

-- a bit is 1 exactly if its test holds
digit_is : (b : Bool) → eqb (digit b) 1 ≡ b
unfolding digit
digit_is true = refl
digit_is false = refl

-- where the child is the container, the container is within the child
or_within : (p : Policy) (x y : ℕ) → contained p y x ≡ (eqb x y || contained p y x)
or_within p x y = go (eqb x y) refl
  where
    go : (t : Bool) → eqb x y ≡ t → contained p y x ≡ (t || contained p y x)
    go true e = let q : x ≡ y = eqb-true x y e in rw q (within_when p.assignments itself)
    go false e = refl

-- the mark of the child, in the marks of all that the container is within
pub mark_closes : (mem : List ℕ) (x y : ℕ) {m : List ℕ} → m ≡ marks_of mem y → x < 512
    → eqb (get_or m x 0) 1 ≡ (eqb x y || contained (policy_of mem) y x)
mark_closes mem x y e h =
    ap (λ (l : List ℕ). eqb (get_or l x 0) 1) e
    ∙ ap (λ v. eqb v 1) (mark_digit mem y x h)
    ∙ digit_is (contained (policy_of mem) y x)
    ∙ or_within (policy_of mem) x y
