-- What the moves leave is the changed group in its place: a record more, or some fewer.
-- Assumes nothing.
use mathlib.Core.Path.{◌≡◌, ap, ◌∙◌}
use mathlib.Core.List.{List, ◌∷◌, ◌++◌, append_assoc, append-nil}
use Prim.Native.Nat.{ℕ, ◌+◌, ◌*◌, ◌-◌, ◌^◌, ◌≤◌, ◌<◌}
use native.Mathlib.Nat.{mul-add}
use native.Mathlib.Omega.{arith}
use lib.ListN.{length, take, drop, get_or, set, replicate, length-append, length-drop, length-replicate}
use lib.Seq.{drop-drop, length-take-le}
use Rattle.group.specs.Group.{records, flat, group, laid, regroup, inserted_at, removed_at, Fits}
use Rattle.group.proofs.Widths.{width_more, width_split}
use Rattle.group.proofs.Rooms.{count_small}
use Rattle.group.proofs.Laid.{length_part, laid_before, laid_behind, laid_wider}
use Rattle.group.proofs.Records.{length_records, flat_records, take_records, drop_records, flat_append}

-- the words with a group in its place, by the words laid and the number
regroup_is : (base width counter : ℕ) (g : List (List ℕ)) (x l : List ℕ) (k : ℕ)
    → flat g ++ replicate (width * get_or l counter 0 - length (flat g)) 0 ≡ x → length g ≡ k → set (laid base x l) counter k ≡ regroup base width counter g l
unfolding regroup
regroup_is base width counter g x l k p q = rw (p, q)

module _ (base width n : ℕ) (l : List ℕ) where
  -- the words of the first `at` records
  words_before : (at : ℕ) → at ≤ n → flat (take at (records width n (drop base l))) ≡ take (width * at) (drop base l)
  words_before at h = ap flat (take_records width at n (drop base l) h) ∙ flat_records width at (drop base l)

  -- the words of the others
  words_from : (at : ℕ) → at ≤ n → flat (drop at (records width n (drop base l))) ≡ take (width * (n - at)) (drop (base + width * at) l)
  words_from at h =
      ap flat (drop_records width at n (drop base l) h) ∙ flat_records width (n - at) (drop (width * at) (drop base l))
      ∙ ap (take (width * (n - at))) (drop-drop (width * at) base l)

-- the words reach behind a record more, put in with `at` before it
pub record Opening (base width counter at : ℕ) (l : List ℕ) : Type 0 where
  pub reach : base + width * at + width * (get_or l counter 0 - at) + width ≤ length l
  pub small : get_or l counter 0 + 1 < 2 ^ 32

-- room for one record more is such a reach
pub opening : {base width counter at : ℕ} {l : List ℕ} → Fits base width counter (get_or l counter 0 + 1) l → at ≤ get_or l counter 0 → Opening base width counter at l
opening {base} {width} {counter} {at} {l} f h = record {
  reach = omega (arith, f.room, width_more width (get_or l counter 0), width_split width at (get_or l counter 0) h);
  small = count_small f;
}

-- the words reach to the group's end, by the records before, behind and between
pub record Closing (base width counter at k : ℕ) (l : List ℕ) : Type 0 where
  pub reach : base + width * at + width * (get_or l counter 0 - (at + k)) + width * k ≤ length l
  pub small : get_or l counter 0 < 2 ^ 32

-- room for the group is such a reach
pub closing : {base width counter : ℕ} (at k : ℕ) {l : List ℕ} → Fits base width counter (get_or l counter 0) l → at + k ≤ get_or l counter 0 → Closing base width counter at k l
closing {base} {width} {counter} at k {l} f h = record {
  reach = omega (arith, f.room, mul-add width at k, width_split width (at + k) (get_or l counter 0) h);
  small = count_small f;
}

module _ (base counter at : ℕ) (rec l : List ℕ) (f : Fits base (length rec) counter (get_or l counter 0 + 1) l) (h : at ≤ get_or l counter 0) where
  -- the reach of a record put in
  insert_room : base + length rec * at + length rec * (get_or l counter 0 - at) + length rec ≤ length l
  insert_room = (opening f h).reach

  -- words moved up by a record's width and the record stored between are the group with the record put in
  pub inserted : {m m' : List ℕ} → m ≡ laid (base + length rec * at + length rec) (take (length rec * (get_or l counter 0 - at)) (drop (base + length rec * at) l)) l
      → m' ≡ laid (base + length rec * at) rec m
      → set m' counter (get_or l counter 0 + 1) ≡ inserted_at base counter at rec l
  unfolding group flat
  inserted {m} {m'} e e' =
      let n : ℕ = get_or l counter 0 in
      let w : ℕ = length rec in
      let d : List ℕ = drop base l in
      let g : List (List ℕ) = records w n d in
      let y : List ℕ = take (w * (n - at)) (drop (base + w * at) l) in
      let len : length y ≡ w * (n - at) = length_part (w * (n - at)) (base + w * at) l (omega (arith, insert_room)) in
      let lenb : length (take (w * at) d) ≡ w * at = length_part (w * at) base l (omega (arith, insert_room)) in
      let whole : flat (take at g ++ (rec ∷ drop at g)) ≡ take (w * at) d ++ (rec ++ y) =
      flat_append (take at g) (rec ∷ drop at g) ∙ rw (words_before base w n l at h, words_from base w n l at h) in
      let size : length (flat (take at g ++ (rec ∷ drop at g))) ≡ w * at + (w + w * (n - at)) =
      ap length whole ∙ simp (length-append, len, lenb) in
      let none : w * n - length (flat (take at g ++ (rec ∷ drop at g))) ≡ 0 = omega (arith, size, width_split w at n h) in
      let count : length (take at g ++ (rec ∷ drop at g)) ≡ n + 1 =
      simp (length-append, length-drop, length-take-le at g (omega (arith, length_records w n d)), length_records w n d) (omega arith) in
      let moved : m' ≡ laid base (take (w * at) d ++ (rec ++ y)) l =
      e' ∙ ap (laid (base + w * at) rec) e ∙ laid_before (base + w * at) rec y l (omega (arith, insert_room)) ∙ laid_wider base (w * at) (rec ++ y) l (omega (arith, insert_room)) in
      ap (λ (x : List ℕ). set x counter (n + 1)) moved
      ∙ regroup_is base w counter (take at g ++ (rec ∷ drop at g)) (take (w * at) d ++ (rec ++ y)) l (n + 1) (rw none (append-nil (flat (take at g ++ (rec ∷ drop at g))) ∙ whole)) count

module _ (base width counter at k : ℕ) (l : List ℕ) (f : Fits base width counter (get_or l counter 0) l) (h : at + k ≤ get_or l counter 0) where
  -- the reach of records taken out
  remove_room : base + width * at + width * (get_or l counter 0 - (at + k)) + width * k ≤ length l
  remove_room = (closing at k f h).reach

  -- words moved down by k records' width and zeros stored behind them are the group with k records taken out
  pub removed : {m m' : List ℕ} → m ≡ laid (base + width * at) (take (width * (get_or l counter 0 - (at + k))) (drop (base + width * at + width * k) l)) l
      → m' ≡ laid (base + width * at + width * (get_or l counter 0 - (at + k))) (replicate (width * k) 0) m
      → set m' counter (get_or l counter 0 - k) ≡ removed_at base width counter at k l
  unfolding group
  removed {m} {m'} e e' =
      let n : ℕ = get_or l counter 0 in
      let w : ℕ = width in
      let d : List ℕ = drop base l in
      let g : List (List ℕ) = records w n d in
      let here : base + w * at + w * k ≡ base + w * (at + k) = omega (arith, mul-add width at k) in
      let y : List ℕ = take (w * (n - (at + k))) (drop (base + w * at + w * k) l) in
      let z : List ℕ = replicate (w * k) 0 in
      let len : length y ≡ w * (n - (at + k)) = length_part (w * (n - (at + k))) (base + w * at + w * k) l (omega (arith, remove_room)) in
      let lenb : length (take (w * at) d) ≡ w * at = length_part (w * at) base l (omega (arith, remove_room)) in
      let lenz : length z ≡ w * k = length-replicate {A = ℕ} (w * k) 0 in
      let whole : flat (take at g ++ drop (at + k) g) ≡ take (w * at) d ++ y =
      flat_append (take at g) (drop (at + k) g) ∙ rw (words_before base w n l at (omega arith), words_from base w n l (at + k) h, here) in
      let size : length (flat (take at g ++ drop (at + k) g)) ≡ w * at + w * (n - (at + k)) = ap length whole ∙ simp (length-append, len, lenb) in
      let free : w * n - length (flat (take at g ++ drop (at + k) g)) ≡ w * k = omega (arith, size, mul-add width at k, width_split w (at + k) n h) in
      let count : length (take at g ++ drop (at + k) g) ≡ n - k =
      simp (length-append, length-drop, length-take-le at g (omega (arith, length_records w n d)), length_records w n d) (omega arith) in
      let two : laid (base + w * at + w * (n - (at + k))) z (laid (base + w * at) y l) ≡ laid (base + w * at) (y ++ z) l =
      rw len at (laid_behind (base + w * at) y z l (omega (arith, remove_room))) in
      let moved : m' ≡ laid base (take (w * at) d ++ (y ++ z)) l =
      e' ∙ ap (laid (base + w * at + w * (n - (at + k))) z) e ∙ two ∙ laid_wider base (w * at) (y ++ z) l (omega (arith, remove_room)) in
      ap (λ (x : List ℕ). set x counter (n - k)) moved
      ∙ regroup_is base w counter (take at g ++ drop (at + k) g) (take (w * at) d ++ (y ++ z)) l (n - k) (rw (free, whole) (append_assoc (take (w * at) d) y z)) count
