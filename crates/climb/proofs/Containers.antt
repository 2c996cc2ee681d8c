-- The containers of one element among the first assignments of the table.
-- Assumes nothing.
use mathlib.Core.Path.{◌≡◌, ap}
use mathlib.Core.List.{List}
use mathlib.Core.Logic.{◌⊎◌, inl, inr}
use Prim.Native.Nat.{ℕ, ◌+◌, ◌*◌, ◌/◌, ◌%◌, ◌≤◌, ◌<◌}
use native.Mathlib.Omega.{arith}
use native.Mathlib.Decide.{dec_lt}
use Rattle.model.specs.Contain.{Assigned}
use Rattle.table.specs.Layout.{assignment_count, assignment_word}
use Rattle.table.specs.View.{policy_of}
use Rattle.table.specs.Facts.{Table, FirstOf, AmongFirst}
use Rattle.table.proofs.Assignments.{rising_le, assigned_word, word_assigned}
use Rattle.climb.specs.Queued.{Container}

module _ {mem : List ℕ} {x : ℕ} where
  -- before the first assignment of x there is none of x
  pub none_before : {r : ℕ} → FirstOf mem x r → (y : ℕ) → AmongFirst mem r x y → ⊥
  none_before f y e = omega (arith, f.before e.at e.early)

  -- what is among the first i is among the first i + 1
  pub still_among : {i : ℕ} (y : ℕ) → AmongFirst mem i x y → AmongFirst mem (i + 1) x y
  still_among y e = record { at = e.at; early = omega arith; is = e.is; small = e.small }

  -- an assignment of x names its container
  pub among_last : (i : ℕ) → x * 512 ≤ assignment_word mem i → assignment_word mem i < (x + 1) * 512 → (y : ℕ) → y ≡ assignment_word mem i % 512 → AmongFirst mem (i + 1) x y
  among_last i l h y e = record { at = i; early = omega arith; is = omega arith; small = omega arith }

  -- what is among the first i + 1 is among the first i or is the last of them
  pub among_split : (i y : ℕ) → AmongFirst mem (i + 1) x y → AmongFirst mem i x y ⊎ (y ≡ assignment_word mem i % 512)
  among_split i y e = elim (dec_lt e.at i) [
    | yes b ↦ inl (record { at = e.at; early = b; is = e.is; small = e.small })
    | no b ↦ inr (let s : e.at ≡ i = omega arith in omega (arith, ap (assignment_word mem) s))
  ]

  -- what is among the first is a container
  pub among_container : {i : ℕ} → i ≤ assignment_count mem → (y : ℕ) → AmongFirst mem i x y → Container mem x y
  among_container l y e = record { at = e.at; early = omega arith; is = e.is; small = e.small }

  -- where the child of assignment i is above x, each container of x stands before it
  pub container_among : {i : ℕ} → Table mem → i < assignment_count mem → x < assignment_word mem i / 512 → (y : ℕ) → Container mem x y → AmongFirst mem i x y
  container_among {i = i} t l h y e = elim (dec_lt e.at i) [
    | yes b ↦ record { at = e.at; early = b; is = e.is; small = e.small }
    | no b ↦ absurd (omega (arith, rising_le t i e.at (omega arith) e.early))
  ]

  -- each container of x stands before the end
  pub container_inside : {i : ℕ} → assignment_count mem ≤ i → (y : ℕ) → Container mem x y → AmongFirst mem i x y
  container_inside l y e = record { at = e.at; early = omega arith; is = e.is; small = e.small }

-- a container by the words is one by the policy
pub container_assigned : {mem : List ℕ} {x y : ℕ} → Container mem x y → Assigned (policy_of mem).assignments x y
unfolding policy_of
container_assigned c = word_assigned c

-- and the other way
pub assigned_container : (mem : List ℕ) {x y : ℕ} → Assigned (policy_of mem).assignments x y → Container mem x y
unfolding policy_of
assigned_container mem a = assigned_word mem a
