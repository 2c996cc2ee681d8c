-- A group put anew: what stays elsewhere in the table.
-- Assumes nothing.
use mathlib.Core.Path.{◌≡◌, refl, ap}
use mathlib.Core.Bool.{true}
use mathlib.Core.List.{List, [], ◌∷◌}
use Prim.Native.Nat.{ℕ, zero, suc, ◌+◌, ◌*◌, ◌≤◌, ◌<◌}
use native.Mathlib.Nat.{le_of_suc-le-suc, not-suc-le-zero}
use native.Mathlib.Omega.{arith}
use lib.ListN.{length, get_or}
use Rattle.model.specs.Lists.{In, first, later, before, precedes, rising}
use Rattle.model.proofs.Truth.{and_join}
use Rattle.model.proofs.Groups.{rising_first, rising_rest}
use Rattle.group.specs.Group.{regroup, Fits, Wide}
use Rattle.group.proofs.Regrouped.{length_regrouped, elsewhere}
use Rattle.store.proofs.Frames.{Else}

-- a group put anew leaves everything else
pub regroup_leaves : {base width counter most : ℕ} {g : List (List ℕ)} {mem : List ℕ} → Fits base width counter most mem → Wide width g → length g ≤ most
    → Else mem (regroup base width counter g mem) counter base (base + width * most)
regroup_leaves f w few = record { long = length_regrouped f w few; at = elsewhere f w few }

-- each place of a list holds a member
pub in_get_d : {A : Type 0} (l : List A) (i : ℕ) (d : A) → i < length l → In (get_or l i d) l
in_get_d [] i d h = absurd (not-suc-le-zero h)
in_get_d (a ∷ l) zero d h = first
in_get_d (a ∷ l) (suc i) d h = later (in_get_d l i d (le_of_suc-le-suc h))

-- a member stands at some place
pub record PlaceOf {A : Type 0} (a : A) (l : List A) (d : A) : Type 0 where
  pub at : ℕ
  pub early : at < length l
  pub is : get_or l at d ≡ a

pub in_at : {A : Type 0} {a : A} {l : List A} (d : A) → In a l → PlaceOf a l d
in_at d first = record { at = 0; early = omega arith; is = refl }
in_at d (later i) = let p = in_at d i in record { at = suc p.at; early = omega (arith, p.early); is = p.is }

-- in a group that rises, an earlier record is before a later one
pub rising_before : {A : Type 0} (key : A → List ℕ) (g : List A) (d : A) (i j : ℕ) → rising key g ≡ true → i < j → j < length g → before (key (get_or g i d)) (key (get_or g j d)) ≡ true
rising_before key [] d i j r h l = absurd (not-suc-le-zero l)
rising_before key (a ∷ g) d i zero r h l = absurd (not-suc-le-zero h)
rising_before key (a ∷ g) d zero (suc j) r h l = rising_first key a g r (in_get_d g j d (le_of_suc-le-suc l))
rising_before key (a ∷ g) d (suc i) (suc j) r h l = rising_before key g d i j (rising_rest key a g r) (le_of_suc-le-suc h) (le_of_suc-le-suc l)

-- a record of one word
pub one_word : (r : List ℕ) → length r ≡ 1 → r ≡ get_or r 0 0 ∷ []
one_word [] e = absurd (omega arith)
one_word (a ∷ []) e = refl
one_word (a ∷ b ∷ r) e = absurd (omega arith)

-- a record of two words
pub two_words : (r : List ℕ) → length r ≡ 2 → r ≡ get_or r 0 0 ∷ get_or r 1 0 ∷ []
two_words [] e = absurd (omega arith)
two_words (a ∷ r) e = ap (λ (l : List ℕ). a ∷ l) (one_word r (omega arith))

-- a list that rises from each place to the next rises
pub rising_get_d : {A : Type 0} (key : A → List ℕ) (g : List A) (d : A) → ((i : ℕ) → suc i < length g → before (key (get_or g i d)) (key (get_or g (suc i) d)) ≡ true) → rising key g ≡ true
unfolding rising precedes
rising_get_d key [] d h = refl
rising_get_d key (a ∷ []) d h = refl
rising_get_d key (a ∷ b ∷ g) d h =
    and_join (before (key a) (key b)) (rising key (b ∷ g)) (h 0 (omega arith)) (rising_get_d key (b ∷ g) d (λ i l. h (suc i) (omega arith)))
