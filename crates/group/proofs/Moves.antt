-- Words that are filled or moved, as words laid over others: by the library, and by loops: what stands after i of them, one more, and the end.
-- Assumes nothing.
use mathlib.Core.Path.{◌≡◌, refl, sym, ap, subst, ◌∙◌}
use mathlib.Core.List.{List, ◌∷◌, ◌++◌}
use Prim.Native.Nat.{ℕ, suc, ◌+◌, ◌-◌, ◌≤◌, ◌<◌}
use native.Mathlib.Numerals.{add-one}
use native.Mathlib.Omega.{arith}
use borrow.Rule.Slice.PartMut.{put_mid}
use lib.ListN.{length, take, drop, get_or, set, replicate, length-set, length-replicate}
use lib.Seq.{take-suc, drop-cons, drop-drop, take-length, length-take-le, get_or-take, get_or-drop}
use Rattle.group.specs.Group.{laid}
use Rattle.group.proofs.Laid.{length_part, laid_none, laid_under, laid_over, set_under, set_over}

-- a part that other words were put into, as many
pub put_laid : (at e : ℕ) (x y l : List ℕ) → y ≡ x → at + length x ≡ e → put_mid at (e - at) l y ≡ laid at x l
unfolding laid
put_laid at e x y l q h =
    let k : e - at ≡ length x = omega arith in
    rw (q, k) (ap (λ (z : List ℕ). take at l ++ (x ++ z)) (drop-drop (length x) at l))

-- a part that was filled with zeros
pub filled_laid : (at e : ℕ) (z l : List ℕ) → at ≤ e → e ≤ length l → (((y : ℕ) → y ≡ 0 → y ≡ 0) → z ≡ replicate (length (take (e - at) (drop at l))) 0)
    → put_mid at (e - at) l z ≡ laid at (replicate (e - at) 0) l
filled_laid at e z l h k filled =
    let n : length (take (e - at) (drop at l)) ≡ e - at = length_part (e - at) at l (omega arith) in
    put_laid at e (replicate (e - at) 0) z l (filled (λ y q. q) ∙ ap (λ (i : ℕ). replicate i 0) n) (let m : length (replicate {A = ℕ} (e - at) 0) ≡ e - at = length-replicate {A = ℕ} (e - at) 0 in omega arith)

-- the first i of the words s lie over the words l from `at` on
pub record Copied (l : List ℕ) (at : ℕ) (s : List ℕ) (i : ℕ) (m : List ℕ) : Type 0 where
  pub fits : at + length s ≤ length l
  pub size : length m ≡ length l
  pub within : i ≤ length s
  pub is : m ≡ laid at (take i s) l

-- before the first word the words are as they were
pub copied_none : (l : List ℕ) (at : ℕ) (s : List ℕ) → at + length s ≤ length l → Copied l at s 0 l
copied_none l at s h = record { fits = h; size = refl; within = omega arith; is = sym (laid_none at l) }

module _ {l : List ℕ} {at : ℕ} {s : List ℕ} {i : ℕ} {m : List ℕ} (c : Copied l at s i m) where
  -- one word more: the next of s is put behind those that lie there
  pub copied_more : i < length s → Copied l at s (i + 1) (set m (at + i) (get_or s i 0))
  copied_more h =
      let len : length (take i s) ≡ i = length-take-le i s (omega arith) in
      let e : at + length (take i s) ≡ at + i = ap (λ (n : ℕ). at + n) len in
      let put : set (laid at (take i s) l) (at + i) (get_or s i 0) ≡ laid at (take (suc i) s) l =
      rw (← e, take-suc s i 0 h) (set_over at (get_or s i 0) (take i s) l (omega arith)) in
      record { fits = c.fits; size = length-set m (at + i) (get_or s i 0) ∙ c.size; within = omega arith; is = rw (c.is, add-one i) put }

  -- at the end the whole of s lies there
  pub copied_all : length s ≤ i → m ≡ laid at s l
  copied_all h =
      let e : i ≡ length s = omega arith in
      c.is ∙ ap (λ (x : List ℕ). laid at x l) (ap (λ (n : ℕ). take n s) e ∙ take-length s)

-- of the n words from `at` + k on the first i lie over the words from `at` on
pub record Closed (l : List ℕ) (at n k i : ℕ) (m : List ℕ) : Type 0 where
  pub reach : at + n + k ≤ length l
  pub count : length (take n (drop (at + k) l)) ≡ n
  pub copied : Copied l at (take n (drop (at + k) l)) i m

-- before the first word the words are as they were
pub closed_none : (l : List ℕ) (at n k : ℕ) → at + n + k ≤ length l → Closed l at n k 0 l
closed_none l at n k h =
    let e : length (take n (drop (at + k) l)) ≡ n = length_part n (at + k) l (omega arith) in
    record { reach = h; count = e; copied = copied_none l at (take n (drop (at + k) l)) (omega arith) }

module _ {l : List ℕ} {at n k i : ℕ} {m : List ℕ} (c : Closed l at n k i m) where
  -- one word more: what is read there is still as it was
  pub closed_more : i < n → Closed l at n k (i + 1) (set m (at + i) (get_or m (at + k + i) 0))
  closed_more h =
      let len : length (take i (take n (drop (at + k) l))) ≡ i = length-take-le i (take n (drop (at + k) l)) c.copied.within in
      let read : get_or m (at + k + i) 0 ≡ get_or (take n (drop (at + k) l)) i 0 =
      ap (λ (x : List ℕ). get_or x (at + k + i) 0) c.copied.is
      ∙ laid_over at (take i (take n (drop (at + k) l))) l (omega arith) (at + k + i) (omega arith)
      ∙ sym (get_or-drop (at + k) l i 0)
      ∙ sym (get_or-take n (drop (at + k) l) i 0 h) in
      let one : Copied l at (take n (drop (at + k) l)) (i + 1) (set m (at + i) (get_or (take n (drop (at + k) l)) i 0)) = copied_more c.copied (omega arith) in
      record { reach = c.reach; count = c.count; copied = rw read one }

  -- at the end all n lie there
  pub closed_all : n ≤ i → m ≡ laid at (take n (drop (at + k) l)) l
  closed_all h = copied_all c.copied (omega arith)

-- of the n words from `at` on those from the i-th on lie k further on
pub record Moved (l : List ℕ) (at n k i : ℕ) (m : List ℕ) : Type 0 where
  pub fits : at + n + k ≤ length l
  pub size : length m ≡ length l
  pub within : i ≤ n
  pub is : m ≡ laid (at + k + i) (take (n - i) (drop (at + i) l)) l

-- before the last word the words are as they were
pub moved_none : (l : List ℕ) (at n k : ℕ) → at + n + k ≤ length l → Moved l at n k n l
moved_none l at n k h =
    let e : n - n ≡ 0 = omega arith in
    record { fits = h; size = refl; within = omega arith; is = rw e (sym (laid_none (at + k + n) l)) }

-- word j is still as it was, and is put before those that lie there
moved_suc : {l : List ℕ} {at n k j : ℕ} {m : List ℕ} → Moved l at n k (suc j) m → Moved l at n k j (set m (at + k + j) (get_or m (at + j) 0))
moved_suc {l} {at} {n} {k} {j} {m} c =
    let len : length (take (n - suc j) (drop (at + suc j) l)) ≡ n - suc j = length_part (n - suc j) (at + suc j) l (omega (arith, c.fits, c.within)) in
    let e : at + k + suc j ≡ suc (at + k + j) = omega arith in
    let e2 : at + suc j ≡ suc (at + j) = omega arith in
    let e3 : n - j ≡ suc (n - suc j) = omega (arith, c.within) in
    let is : m ≡ laid (suc (at + k + j)) (take (n - suc j) (drop (suc (at + j)) l)) l = (rw (e, e2) at c.is) in
    let read : get_or m (at + j) 0 ≡ get_or l (at + j) 0 =
    ap (λ (x : List ℕ). get_or x (at + j) 0) c.is
    ∙ laid_under (at + k + suc j) (take (n - suc j) (drop (at + suc j) l)) l (omega (arith, c.fits, c.within)) (at + j) (omega arith) in
    let part : take (n - j) (drop (at + j) l) ≡ get_or l (at + j) 0 ∷ take (n - suc j) (drop (suc (at + j)) l) =
    rw (e3, drop-cons l (at + j) 0 (omega (arith, c.fits, c.within))) in
    record {
      fits = c.fits;
      size = length-set m (at + k + j) (get_or m (at + j) 0) ∙ c.size;
      within = omega (arith, c.within);
      is = rw (read, is, part) (set_under (at + k + j) (get_or l (at + j) 0) (take (n - suc j) (drop (suc (at + j)) l)) l (omega (arith, c.fits, c.within)));
    }

module _ {l : List ℕ} {at n k i : ℕ} {m : List ℕ} (c : Moved l at n k i m) where
  -- the same, as the loop counts
  pub moved_more : 0 < i → Moved l at n k (i - 1) (set m (at + k + (i - 1)) (get_or m (at + (i - 1)) 0))
  moved_more h = let e : i ≡ suc (i - 1) = omega arith in moved_suc (subst (λ (j : ℕ). Moved l at n k j m) e c)

  -- at the end all n lie there
  pub moved_all : i ≤ 0 → m ≡ laid (at + k) (take n (drop at l)) l
  moved_all h =
      let e : i ≡ 0 = omega arith in
      let e1 : at + k + 0 ≡ at + k = omega arith in
      let e2 : at + 0 ≡ at = omega arith in
      let e3 : n - 0 ≡ n = omega arith in
      rw (e, e1, e2, e3) at c.is
