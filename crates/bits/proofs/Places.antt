-- Bits at a place: what stands there after a write, what stands elsewhere, and neighbouring reads and writes as one.
-- Assumes nothing.
use mathlib.Core.Path.{◌≡◌, refl, sym, ap, ◌∙◌}
use mathlib.Core.Bool.{Bool}
use mathlib.Core.List.{List, [], ◌++◌, append_assoc}
use Prim.Native.Nat.{ℕ, ◌+◌, ◌-◌, ◌*◌, ◌^◌, ◌≤◌}
use native.Mathlib.Nat.{add_assoc, add-zero}
use native.Mathlib.Omega.{arith}
use lib.ListN.{length, take, drop, length-append, length-drop, take-append-drop}
use lib.Seq.{length-take-le, take_at, drop_at, take-add, drop-drop, take-append-le, drop-append-le}
use Rattle.model.specs.Bits.{num_of, num_at}
use Rattle.bits.specs.Cursor.{written}
use Rattle.bits.proofs.Spelling.{num_append}

-- the part between two others
pub middle : (a b c : List Bool) (at n : ℕ) → length a ≡ at → length b ≡ n → take n (drop at (a ++ (b ++ c))) ≡ b
middle a b c at n ea eb = rw (drop_at a (b ++ c) at ea, take_at b c n eb)

-- a part that is there is as long as it is asked for
length_part : (l : List Bool) (at n : ℕ) → at + n ≤ length l → length (take n (drop at l)) ≡ n
length_part l at n h = length-take-le n (drop at l) (rw (length-drop at l) (omega arith))

-- a part that lies within the first of two lists
within_front : (a b : List Bool) (p n : ℕ) → p + n ≤ length a → take n (drop p (a ++ b)) ≡ take n (drop p a)
within_front a b p n h = rw (drop-append-le p a b (omega arith)) (take-append-le n (drop p a) b (rw (length-drop p a) (omega arith)))

-- two neighbouring reads are one
pub reads_join : (l : List Bool) (at m k : ℕ) → at + (m + k) ≤ length l → num_at l at (m + k) ≡ num_at l at m * 2 ^ k + num_at l (at + m) k
unfolding num_at
reads_join l at m k h =
    rw (take-add m k (drop at l), drop-drop m at l, num_append (take m (drop at l)) (take k (drop (at + m) l)), length_part l (at + m) k (omega arith))

-- no bits spell 0
pub read_none : (l : List Bool) (at : ℕ) → num_at l at 0 ≡ 0
unfolding num_at num_of
read_none l at = refl

-- no bits written leave the bits as they were
pub write_none : (l : List Bool) (at : ℕ) → written l at [] ≡ l
unfolding written
write_none l at = rw (add-zero at) (take-append-drop at l)

-- a write of as many bits over the part between two others
pub write_middle : (a b c d : List Bool) (at : ℕ) → length a ≡ at → length b ≡ length d → written (a ++ (b ++ c)) at d ≡ a ++ (d ++ c)
unfolding written
write_middle a b c d at ea eb =
    let e : drop (at + length d) (a ++ (b ++ c)) ≡ c =
    rw (← append_assoc a b c) (drop_at (a ++ b) c (at + length d) (rw (length-append a b, ea, eb))) in
    rw (take_at a (b ++ c) at ea, e)

-- a write within the first of two lists
write_front : (a b : List Bool) (at : ℕ) (xs : List Bool) → at + length xs ≤ length a → written (a ++ b) at xs ≡ written a at xs ++ b
unfolding written
write_front a b at xs h =
    rw (take-append-le at a b (omega arith), drop-append-le (at + length xs) a b h) (simp append_assoc)

-- the bits after a write, in their three parts
all_of_lem : (l : List Bool) (at : ℕ) (xs : List Bool) → written l at xs ≡ take at l ++ (xs ++ drop (at + length xs) l)
unfolding written
all_of_lem l at xs = refl

-- a write leaves as many bits as there were
pub length_written : (l : List Bool) (at : ℕ) (xs : List Bool) → at + length xs ≤ length l → length (written l at xs) ≡ length l
unfolding written
length_written l at xs h =
    rw (length-append (take at l) (xs ++ drop (at + length xs) l), length-append xs (drop (at + length xs) l), length-take-le at l (omega arith), length-drop (at + length xs) l)
    (omega arith)

-- a write of bits for which there is room
module _ (l : List Bool) (at : ℕ) (xs : List Bool) (h : at + length xs ≤ length l) where
  -- there are as many bits before them as their place says
  length_front : length (take at l) ≡ at
  length_front = length-take-le at l (omega arith)

  -- up to their end stand the bits before them, and they
  take_written : take (at + length xs) (written l at xs) ≡ take at l ++ xs
  unfolding written
  take_written =
      rw (← append_assoc (take at l) xs (drop (at + length xs) l))
      (take_at (take at l ++ xs) (drop (at + length xs) l) (at + length xs) (rw (length-append (take at l) xs, length_front)))

  -- from their end on the bits are as they were
  drop_written : drop (at + length xs) (written l at xs) ≡ drop (at + length xs) l
  unfolding written
  drop_written =
      rw (← append_assoc (take at l) xs (drop (at + length xs) l))
      (drop_at (take at l ++ xs) (drop (at + length xs) l) (at + length xs) (rw (length-append (take at l) xs, length_front)))

  -- and so from any place behind them on
  pub behind_written : (p : ℕ) → at + length xs ≤ p → drop p (written l at xs) ≡ drop p l
  behind_written p b =
      let e : p ≡ at + length xs + (p - (at + length xs)) = omega arith in
      rw (e, ← drop-drop (p - (at + length xs)) (at + length xs) (written l at xs), ← drop-drop (p - (at + length xs)) (at + length xs) l, drop_written)

  -- what was written is read
  pub at_written : num_at (written l at xs) at (length xs) ≡ num_of xs
  unfolding written num_at
  at_written = rw (middle (take at l) xs (drop (at + length xs) l) at (length xs) length_front refl)

  -- what is read before it is as it was
  pub before_written : (p n : ℕ) → p + n ≤ at → num_at (written l at xs) p n ≡ num_at l p n
  unfolding written num_at
  before_written p n b =
      let k : p + n ≤ length (take at l) = rw length_front b in
      let e : take n (drop p (take at l)) ≡ take n (drop p l) =
      sym (within_front (take at l) (drop at l) p n k) ∙ rw (take-append-drop at l) in
      rw (within_front (take at l) (xs ++ drop (at + length xs) l) p n k, e)

  -- what is read behind it is as it was
  pub after_written : (p n : ℕ) → at + length xs ≤ p → num_at (written l at xs) p n ≡ num_at l p n
  unfolding num_at
  after_written p n b = rw (behind_written p b)

  -- two neighbouring writes are one
  pub writes_join : (ys : List Bool) → written (written l at xs) (at + length xs) ys ≡ written l at (xs ++ ys)
  unfolding written
  writes_join ys =
      rw (take_written, behind_written (at + length xs + length ys) (omega arith), length-append xs ys, ← add_assoc at (length xs) (length ys)) (simp append_assoc)

  -- two writes at places apart from each other leave the same bits in either order
  pub writes_apart : (p : ℕ) (ys : List Bool) → at + length xs ≤ p → p + length ys ≤ length l → written (written l at xs) p ys ≡ written (written l p ys) at xs
  writes_apart p ys b k =
      let f : length (take p l) ≡ p = length-take-le p l (omega arith) in
      let x : List Bool = written (take p l) at xs in
      let d : List Bool = drop (p + length ys) l in
      let fit : at + length xs ≤ length (take p l) = rw f b in
      let e : written l at xs ≡ x ++ (take (length ys) (drop p l) ++ d) =
      ap (λ (z : List Bool). written z at xs) (sym (take-append-drop p l)) ∙ write_front (take p l) (drop p l) at xs fit
      ∙ ap (λ (z : List Bool). x ++ z) (sym (take-append-drop (length ys) (drop p l)) ∙ rw (drop-drop (length ys) p l)) in
      rw e (write_middle x (take (length ys) (drop p l)) d ys p (length_written (take p l) at xs fit ∙ f) (length_part l p (length ys) k))
      ∙ sym (ap (λ (z : List Bool). written z at xs) (all_of_lem l p ys) ∙ write_front (take p l) (ys ++ d) at xs fit)
