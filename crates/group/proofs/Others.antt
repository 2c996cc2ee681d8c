-- Two groups in the same words, apart from each other: a change of the one leaves the other.
-- Assumes nothing.
use mathlib.Core.Path.{◌≡◌, sym, ap, ◌∙◌}
use mathlib.Core.List.{List}
use mathlib.Core.Logic.{◌⊎◌, inl, inr}
use Prim.Native.Nat.{ℕ, ◌+◌, ◌*◌, ◌≤◌, ◌<◌}
use native.Mathlib.Nat.{mul-le-mul_left}
use native.Mathlib.Omega.{arith}
use lib.ListN.{length, take, drop, get_or}
use lib.Seq.{get_or-drop, get_or-take, ext_get_or}
use Rattle.group.specs.Group.{records, group, regroup, Fits, Wide, Clear}
use Rattle.group.proofs.Laid.{length_part}
use Rattle.group.proofs.Records.{records_alike}
use Rattle.group.proofs.Rooms.{group_within}
use Rattle.group.proofs.Regrouped.{length_regrouped, elsewhere}

-- neither group's room or counter reaches into the other's
pub record Apart (base width counter most base' width' counter' most' : ℕ) : Type 0 where
  pub counters : counter' ≡ counter → ⊥
  pub before : counter' < base
  pub before' : counter < base'
  pub rooms : (base' + width' * most' ≤ base) ⊎ (base + width * most ≤ base')

module _ {base width counter most base' width' counter' most' : ℕ} {g : List (List ℕ)} {l : List ℕ}
    (a : Apart base width counter most base' width' counter' most') (f : Fits base width counter most l) (f' : Fits base' width' counter' most' l)
    (w : Wide width g) (few : length g ≤ most) where
  -- each word of the other group's room is as it was
  pub other_words : (i : ℕ) → base' ≤ i → i < base' + width' * most' → get_or (regroup base width counter g l) i 0 ≡ get_or l i 0
  other_words i h k = elsewhere f w few i (λ e. omega (arith, a.before')) (side a.rooms)
    where
      side : (base' + width' * most' ≤ base) ⊎ (base + width * most ≤ base') → (i < base) ⊎ (base + width * most ≤ i)
      side (inl r) = inl (omega arith)
      side (inr r) = inr (omega arith)

  -- so is its counter
  pub other_count : get_or (regroup base width counter g l) counter' 0 ≡ get_or l counter' 0
  other_count = elsewhere f w few counter' a.counters (inl a.before)

  -- the other group is as it was
  pub other_group : group base' width' counter' (regroup base width counter g l) ≡ group base' width' counter' l
  unfolding group
  other_group =
      let n : ℕ = get_or l counter' 0 in
      let r : List ℕ = regroup base width counter g l in
      let len : base' + width' * n ≤ length l = group_within f' in
      let in-room : width' * n ≤ width' * most' = mul-le-mul_left width' f'.few in
      let size : length (take (width' * n) (drop base' r)) ≡ width' * n = length_part (width' * n) base' r (omega (arith, length_regrouped f w few)) in
      let size' : length (take (width' * n) (drop base' l)) ≡ width' * n = length_part (width' * n) base' l len in
      ap (λ (k : ℕ). records width' k (drop base' r)) other_count
      ∙ records_alike width' n (drop base' r) (drop base' l)
      (ext_get_or 0 (take (width' * n) (drop base' r)) (take (width' * n) (drop base' l)) (size ∙ sym size')
      (λ i k. let b : i < width' * n = omega arith in
      get_or-take (width' * n) (drop base' r) i 0 b ∙ get_or-drop base' r i 0 ∙ other_words (base' + i) (omega arith) (omega arith)
      ∙ sym (get_or-drop base' l i 0) ∙ sym (get_or-take (width' * n) (drop base' l) i 0 b)))

  -- the other group has zeros behind its records as before
  pub other_clear : Clear base' width' counter' most' l → Clear base' width' counter' most' (regroup base width counter g l)
  other_clear c = record { zero_at = λ i h k. let h' : base' + width' * get_or l counter' 0 ≤ i = rw other_count at h in other_words i (omega arith) k ∙ c.zero_at i h' k }
