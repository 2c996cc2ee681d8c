-- What a command names: a process by its user, elements by their kinds.
-- Assumes nothing.
use mathlib.Core.Path.{◌≡◌, sym, ap, ap₂, ◌∙◌}
use mathlib.Core.Bool.{Bool, true, false, not, ◌||◌}
use mathlib.Core.List.{List}
use mathlib.Core.Logic.{inl}
use Prim.Native.Nat.{ℕ, ◌≤◌}
use native.Mathlib.Omega.{arith}
use native.Mathlib.Decide.{dec_lt}
use borrow.Author.Tests.{eq-eqb, ne_eqb, not-false}
use lib.Dec.{eqb}
use Rattle.model.specs.Policy.{Association, Policy, is_attribute_kind, allowed, kind_of, is_there, user_of, is_process}
use Rattle.model.specs.Sound.{association_pairs}
use Rattle.model.proofs.Truth.{clash}
use Rattle.table.specs.View.{policy_of}
use Rattle.table.proofs.ById.{kind_outside}
use Rattle.table.proofs.Asked.{first_fails, second_decides}

-- an element that was told to be there has no id 0
pub there_positive : (mem : List ℕ) (x : ℕ) {r : Bool} → r ≡ is_there (policy_of mem) x → not r ≡ false → 1 ≤ x
unfolding is_there
there_positive mem x {r} e h = elim (dec_lt x 1) [
  | yes l ↦ absurd (clash (sym e ∙ not-false r h) (ap not (eq-eqb (kind_of (policy_of mem) x) 0 (sym (kind_outside mem x (inl l))))))
  | no g ↦ omega arith
]

module _ (p : Policy) where
  -- a process is there exactly if its user is not 0
  pub process_told : (i : ℕ) {u : ℕ} → u ≡ user_of p i → not (eqb u 0) ≡ is_process p i
  unfolding is_process
  process_told i e = ap (λ u. not (eqb u 0)) e

  -- an element is of a kind exactly if the kind that was told is this one
  pub kind_told : (x k : ℕ) {l : ℕ} → l ≡ kind_of p x → eqb l k ≡ eqb (kind_of p x) k
  kind_told x k e = ap (λ l. eqb l k) e

  -- whether an assignment is allowed, by the kinds of its ends
  pub pairing_told : (x y : ℕ) {k l : ℕ} → k ≡ kind_of p x → l ≡ kind_of p y → {s : Bool} → s ≡ allowed k l
      → s ≡ allowed (kind_of p x) (kind_of p y)
  pairing_told x y e f g = g ∙ ap₂ allowed e f

  -- an element to be created is a class
  pub class_unplaceable : (k y : ℕ) → k ≡ 5 → true ≡ (eqb k 5 || not (allowed k (kind_of p y)))
  class_unplaceable k y h = rw (eq-eqb k 5 h)

  -- it is not: the pairing tells
  pub pairing_tells : (k y : ℕ) → (k ≡ 5 → ⊥) → {l : ℕ} → l ≡ kind_of p y → {s : Bool} → s ≡ allowed k l
      → not s ≡ (eqb k 5 || not (allowed k (kind_of p y)))
  pairing_tells k y d f g = rw (ne_eqb k 5 d) (ap not (g ∙ ap (allowed k) f))

  -- The ends of an association, by what was told of the attribute's kind.
  module _ (a : Association) {r : Bool} (e : r ≡ eqb (kind_of p a.attribute) 2) where
    -- it is no user attribute
    pub other_ends : not r ≡ true → false ≡ association_pairs p a
    unfolding association_pairs
    other_ends h = first_fails (is_attribute_kind (kind_of p a.target)) e h

    -- it is one: the target's kind tells
    pub target_tells : not r ≡ false → {l : ℕ} → l ≡ kind_of p a.target → {s : Bool} → s ≡ is_attribute_kind l
        → s ≡ association_pairs p a
    unfolding association_pairs
    target_tells h f g = second_decides e h (g ∙ ap is_attribute_kind f)
