-- The words with a group in a group's place: their number, the count, the group, the words that became free, and every other word.
-- Assumes nothing.
use mathlib.Core.Path.{◌≡◌, ap, ◌∙◌}
use mathlib.Core.List.{List, ◌++◌, append_assoc}
use mathlib.Core.Logic.{◌⊎◌, inl, inr}
use Prim.Native.Nat.{ℕ, ◌+◌, ◌*◌, ◌-◌, ◌≤◌, ◌<◌}
use native.Mathlib.Nat.{mul-le-mul_left}
use native.Mathlib.Omega.{arith}
use native.Mathlib.Decide.{dec_lt}
use lib.ListN.{length, drop, get_or, replicate, length-append, length-set, length-replicate, get_or-replicate}
use lib.Seq.{get_or-set_same, get_or-set_other, drop-set-lt, get_or-append-add}
use Rattle.group.specs.Group.{records, flat, group, laid, regroup, Fits, Wide, Clear}
use Rattle.group.proofs.Laid.{laid_length, laid_under, laid_within, laid_over, drop_at_laid}
use Rattle.group.proofs.Records.{length_flat, records_flat}

-- the words that are laid: the group's, then those that became free
abbrev over : (width counter : ℕ) → List (List ℕ) → List ℕ → List ℕ
over width counter g l = flat g ++ replicate (width * get_or l counter 0 - length (flat g)) 0

module _ {base width counter most : ℕ} {g : List (List ℕ)} {l : List ℕ} (f : Fits base width counter most l) (w : Wide width g) (few : length g ≤ most) where
  -- how many words are laid
  over_length : length (over width counter g l) ≡ width * length g + (width * get_or l counter 0 - width * length g)
  over_length = simp (length-append, length-replicate, length_flat width g w)

  -- they lie in the group's room
  over_fits : base + length (over width counter g l) ≤ base + width * most
  over_fits =
      let a : width * length g ≤ width * most = mul-le-mul_left width few in
      let b : width * get_or l counter 0 ≤ width * most = mul-le-mul_left width f.few in
      omega (arith, over_length)

  -- and in the words
  laid_fits : base + length (over width counter g l) ≤ length l
  laid_fits = omega (arith, over_fits, f.room)

  -- there are as many words as before
  pub length_regrouped : length (regroup base width counter g l) ≡ length l
  unfolding regroup
  length_regrouped = length-set (laid base (over width counter g l) l) counter (length g) ∙ laid_length base (over width counter g l) l laid_fits

  -- the counter has the group's number
  pub count_regrouped : get_or (regroup base width counter g l) counter 0 ≡ length g
  unfolding regroup
  count_regrouped = get_or-set_same (laid base (over width counter g l) l) counter (length g) 0 (omega (arith, laid_length base (over width counter g l) l laid_fits, laid_fits, f.apart))

  -- from the base on stand the records, the words that became free, and the rest
  drop_regrouped : drop base (regroup base width counter g l)
      ≡ flat g ++ (replicate (width * get_or l counter 0 - length (flat g)) 0 ++ drop (base + length (over width counter g l)) l)
  unfolding regroup
  drop_regrouped =
      drop-set-lt base (laid base (over width counter g l) l) counter (length g) f.apart ∙ drop_at_laid base (over width counter g l) l laid_fits
      ∙ append_assoc (flat g) (replicate (width * get_or l counter 0 - length (flat g)) 0) (drop (base + length (over width counter g l)) l)

  -- a group laid down is there again
  pub group_regrouped : group base width counter (regroup base width counter g l) ≡ g
  unfolding group
  group_regrouped =
      ap (λ (n : ℕ). records width n (drop base (regroup base width counter g l))) count_regrouped
      ∙ ap (records width (length g)) drop_regrouped ∙ records_flat width g _ w

  -- a word that is not the counter is as it was laid
  other_word : (i : ℕ) → (i ≡ counter → ⊥) → get_or (regroup base width counter g l) i 0 ≡ get_or (laid base (over width counter g l) l) i 0
  unfolding regroup
  other_word i ne = get_or-set_other (laid base (over width counter g l) l) counter i (length g) 0 ne

  -- a word before the records, other than the counter, is as it was
  pub word_before : (i : ℕ) → (i ≡ counter → ⊥) → i < base → get_or (regroup base width counter g l) i 0 ≡ get_or l i 0
  word_before i ne h = other_word i ne ∙ laid_under base (over width counter g l) l laid_fits i h

  -- so is a word behind the group that was and behind the one that is
  pub word_behind : (i : ℕ) → base + width * get_or l counter 0 ≤ i → base + width * length g ≤ i → get_or (regroup base width counter g l) i 0 ≡ get_or l i 0
  word_behind i h k =
      let ne : i ≡ counter → ⊥ = λ e. omega (arith, f.apart) in
      other_word i ne ∙ laid_over base (over width counter g l) l laid_fits i (omega (arith, over_length))

  -- so each word is as it was that is not the counter and lies outside the room for the group
  pub elsewhere : (i : ℕ) → (i ≡ counter → ⊥) → (i < base) ⊎ (base + width * most ≤ i) → get_or (regroup base width counter g l) i 0 ≡ get_or l i 0
  elsewhere i ne (inl h) = word_before i ne h
  elsewhere i ne (inr h) =
      let a : width * length g ≤ width * most = mul-le-mul_left width few in
      let b : width * get_or l counter 0 ≤ width * most = mul-le-mul_left width f.few in
      word_behind i (omega arith) (omega arith)

  -- a word that became free is 0
  pub freed_zero : (i : ℕ) → base + width * length g ≤ i → i < base + width * get_or l counter 0 → get_or (regroup base width counter g l) i 0 ≡ 0
  freed_zero i h k =
      let ne : i ≡ counter → ⊥ = λ e. omega (arith, f.apart) in
      let e : i ≡ base + (length (flat g) + (i - (base + width * length g))) = omega (arith, length_flat width g w) in
      let inside : length (flat g) + (i - (base + width * length g)) < length (over width counter g l) = omega (arith, over_length, length_flat width g w) in
      let free : i - (base + width * length g) < width * get_or l counter 0 - length (flat g) = omega (arith, length_flat width g w) in
      other_word i ne
      ∙ ap (λ (n : ℕ). get_or (laid base (over width counter g l) l) n 0) e
      ∙ laid_within base (over width counter g l) l laid_fits (length (flat g) + (i - (base + width * length g))) inside
      ∙ get_or-append-add (flat g) (replicate (width * get_or l counter 0 - length (flat g)) 0) (i - (base + width * length g)) 0
      ∙ get_or-replicate (width * get_or l counter 0 - length (flat g)) (i - (base + width * length g)) 0 0 free

  -- where each word behind the group's records was 0 it is so again
  pub zero_beyond : Clear base width counter most l → Clear base width counter most (regroup base width counter g l)
  zero_beyond c = record { zero_at = λ i h k. beyond i (rw count_regrouped at h) k }
    where
      beyond : (i : ℕ) → base + width * length g ≤ i → i < base + width * most → get_or (regroup base width counter g l) i 0 ≡ 0
      beyond i h k = elim (dec_lt i (base + width * get_or l counter 0)) [
        | yes b ↦ freed_zero i h b
        | no b ↦ word_behind i (omega arith) h ∙ c.zero_at i (omega arith) k
      ]
