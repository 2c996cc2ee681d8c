-- The marks: one for each id from 0 to 511, and 1 exactly for what the element is within.
-- Assumes nothing.
use mathlib.Core.Path.{◌≡◌, refl, sym, ap, ◌∙◌}
use mathlib.Core.Bool.{Bool, true, false, ◌||◌}
use mathlib.Core.List.{List}
use mathlib.Core.Logic.{◌↔◌}
use Prim.Native.Nat.{ℕ, ◌≤◌, ◌<◌}
use native.Mathlib.Omega.{arith}
use native.Mathlib.Decide.{ℕ_discrete}
use lib.Dec.{eqb}
use lib.ListN.{length, get_or}
use Rattle.model.specs.Contain.{Within, itself, above, contained}
use Rattle.model.specs.Bits.{digit}
use Rattle.model.proofs.Truth.{clash, fails_when}
use Rattle.model.proofs.Contained.{within_says, within_when}
use Rattle.model.proofs.Indexed.{length_tabulate, get_d_tabulate}
use Rattle.table.specs.View.{policy_of}
use Rattle.climb.specs.Marking.{marks_of, also_marks}
use Rattle.climb.proofs.Containers.{assigned_container}

-- there are 512 marks
pub marks_length : (mem : List ℕ) (x : ℕ) → length (marks_of mem x) ≡ 512
unfolding marks_of
marks_length mem x = length_tabulate 512 (λ y. digit (contained (policy_of mem) x y))

-- each is the bit of what containment computes
pub mark_digit : (mem : List ℕ) (x y : ℕ) → y < 512 → get_or (marks_of mem x) y 0 ≡ digit (contained (policy_of mem) x y)
unfolding marks_of
mark_digit mem x y h = get_d_tabulate 512 (λ y. digit (contained (policy_of mem) x y)) y 0 h

-- the marks with those of all that x is within: there are 512
pub also_length : (mem seen : List ℕ) (x : ℕ) → length (also_marks mem seen x) ≡ 512
unfolding also_marks
also_length mem seen x = length_tabulate 512 (λ y. digit (eqb (get_or seen y 0) 1 || contained (policy_of mem) x y))

-- each is the bit of "marked before, or x is within it"
pub mark_also : (mem seen : List ℕ) (x y : ℕ) → y < 512 → get_or (also_marks mem seen x) y 0 ≡ digit (eqb (get_or seen y 0) 1 || contained (policy_of mem) x y)
unfolding also_marks
mark_also mem seen x y h = get_d_tabulate 512 (λ y. digit (eqb (get_or seen y 0) 1 || contained (policy_of mem) x y)) y 0 h

-- the test of a bit that is 1 holds
pub digit_one : (b : Bool) → digit b ≡ 1 → b ≡ true
unfolding digit
digit_one true e = refl
digit_one false e = absurd (omega arith)

-- a number of at most 1 that is 1 exactly if a test holds is its bit
pub digit_when : (b : Bool) (m : ℕ) → m ≤ 1 → (m ≡ 1 → b ≡ true) → (b ≡ true → m ≡ 1) → m ≡ digit b
unfolding digit
digit_when true m l says when = when refl
digit_when false m l says when = elim (ℕ_discrete m 1) [ yes e ↦ absurd (clash (says e) refl) | no d ↦ omega (arith, d) ]

-- each mark is 1 exactly for what x is within
pub marked_exactly_if_within : (mem : List ℕ) (x y : ℕ) → y < 512 → (get_or (marks_of mem x) y 0 ≡ 1) ↔ Within (policy_of mem).assignments x y
unfolding digit
marked_exactly_if_within mem x y h = (
  λ e. within_says (policy_of mem).assignments (digit_one (contained (policy_of mem) x y) (sym (mark_digit mem x y h) ∙ e)),
  λ w. mark_digit mem x y h ∙ ap digit (within_when (policy_of mem).assignments w),
)

-- no element below 512 is within one from 512 on: the marks say all there is
pub within_small : (mem : List ℕ) {x y : ℕ} → x < 512 → Within (policy_of mem).assignments x y → y < 512
within_small mem l itself = l
within_small mem l (above a w) = within_small mem (assigned_container mem a).small w

-- so x is within none of them
pub contained_far : (mem : List ℕ) (x y : ℕ) → x < 512 → 512 ≤ y → contained (policy_of mem) x y ≡ false
contained_far mem x y l h =
    fails_when (contained (policy_of mem) x y) (λ t. let s : y < 512 = within_small mem l (within_says (policy_of mem).assignments t) in omega arith)
