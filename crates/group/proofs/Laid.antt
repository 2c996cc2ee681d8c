-- Words laid over words: how long, what stands where afterwards, and one after another.
-- Assumes nothing.
use mathlib.Core.Path.{◌≡◌, refl, sym, ap, ◌∙◌}
use mathlib.Core.List.{List, [], ◌∷◌, ◌++◌, append_assoc}
use Prim.Native.Nat.{ℕ, suc, ◌+◌, ◌-◌, ◌≤◌, ◌<◌}
use native.Mathlib.Nat.{add-zero}
use native.Mathlib.Omega.{arith}
use lib.ListN.{length, take, drop, get_or, set, length-append, length-drop, get_or-append, take-append-drop}
use lib.Seq.{take-suc, drop-cons, append_snoc, set_at, take_at, drop_at, take-append-le, take-take, take-add, drop-drop, drop-append-add, get_or-take, get_or-drop, length-take-le}
use Rattle.group.specs.Group.{laid}

-- the words from a place on, as many as are there
pub length_part : (n from : ℕ) (l : List ℕ) → from + n ≤ length l → length (take n (drop from l)) ≡ n
length_part n from l h = let k : n ≤ length (drop from l) = simp length-drop (omega arith) in length-take-le n (drop from l) k

-- nothing laid over words leaves them
pub laid_none : (at : ℕ) (l : List ℕ) → laid at [] l ≡ l
unfolding laid
laid_none at l = rw (add-zero at) (take-append-drop at l)

-- what stands there laid over itself leaves the words
pub laid_itself : (at n : ℕ) (l : List ℕ) → at + n ≤ length l → laid at (take n (drop at l)) l ≡ l
unfolding laid
laid_itself at n l h =
    rw (length_part n at l h)
    (sym (append_assoc (take at l) (take n (drop at l)) (drop (at + n) l)) ∙ ap (λ (x : List ℕ). x ++ drop (at + n) l) (sym (take-add at n l)) ∙ take-append-drop (at + n) l)

-- what is laid over from a later place on is laid over from an earlier one with the words between
pub laid_wider : (at j : ℕ) (x l : List ℕ) → at + j ≤ length l → laid (at + j) x l ≡ laid at (take j (drop at l) ++ x) l
unfolding laid
laid_wider at j x l h =
    let e : at + length (take j (drop at l) ++ x) ≡ at + j + length x = simp (length-append, length_part j at l h) (omega arith) in
    rw (take-add at j l, e) (simp append_assoc)

module _ (at : ℕ) (x l : List ℕ) (fits : at + length x ≤ length l) where
  -- what stands up to the end of what is laid
  head_length : length (take at l ++ x) ≡ at + length x
  head_length = length-append (take at l) x ∙ ap (λ (n : ℕ). n + length x) (length-take-le at l (omega arith))

  -- there are as many words as before
  pub laid_length : length (laid at x l) ≡ length l
  unfolding laid
  laid_length = simp (length-append, length-drop, length-take-le at l (omega arith)) (omega arith)

  -- what stands before is as it was
  pub take_laid : (t : ℕ) → t ≤ at → take t (laid at x l) ≡ take t l
  unfolding laid
  take_laid t h =
      let len : t ≤ length (take at l) = rw (length-take-le at l (omega arith)) h in
      take-append-le t (take at l) _ len ∙ take-take t at l h

  -- what is laid stands there
  pub drop_at_laid : drop at (laid at x l) ≡ x ++ drop (at + length x) l
  unfolding laid
  drop_at_laid = drop_at (take at l) _ at (length-take-le at l (omega arith))

  -- what stands behind is as it was
  pub drop_laid : (t : ℕ) → at + length x ≤ t → drop t (laid at x l) ≡ drop t l
  unfolding laid
  drop_laid t h =
      let e : t ≡ length (take at l ++ x) + (t - (at + length x)) = omega (arith, head_length) in
      let e2 : at + length x + (t - (at + length x)) ≡ t = omega arith in
      ap (drop t) (sym (append_assoc (take at l) x _)) ∙ ap (λ (n : ℕ). drop n ((take at l ++ x) ++ drop (at + length x) l)) e
      ∙ drop-append-add (take at l ++ x) (drop (at + length x) l) (t - (at + length x)) ∙ drop-drop (t - (at + length x)) (at + length x) l ∙ ap (λ (n : ℕ). drop n l) e2

  -- a word before is as it was
  pub laid_under : (i : ℕ) → i < at → get_or (laid at x l) i 0 ≡ get_or l i 0
  unfolding laid
  laid_under i h =
      get_or-append (take at l) _ 0 i (rw (length-take-le at l (omega arith)) h) ∙ get_or-take at l i 0 h

  -- a word that is laid stands there
  pub laid_within : (i : ℕ) → i < length x → get_or (laid at x l) (at + i) 0 ≡ get_or x i 0
  laid_within i h =
      sym (get_or-drop at (laid at x l) i 0) ∙ ap (λ (y : List ℕ). get_or y i 0) drop_at_laid ∙ get_or-append x (drop (at + length x) l) 0 i h

  -- a word behind is as it was
  pub laid_over : (i : ℕ) → at + length x ≤ i → get_or (laid at x l) i 0 ≡ get_or l i 0
  laid_over i h =
      let e : i + 0 ≡ i = omega arith in
      let f : get_or (laid at x l) (i + 0) 0 ≡ get_or l (i + 0) 0 =
      sym (get_or-drop i (laid at x l) 0 0) ∙ ap (λ (y : List ℕ). get_or y 0 0) (drop_laid i h) ∙ get_or-drop i l 0 0 in
      rw e at f

-- a word put before laid words is laid with them
pub set_under : (at v : ℕ) (x l : List ℕ) → at < length l → set (laid (suc at) x l) at v ≡ laid at (v ∷ x) l
unfolding laid
set_under at v x l h =
    let e : suc at + length x ≡ at + suc (length x) = omega arith in
    rw (e, take-suc l at 0 h, append_snoc) (set_at (take at l) (get_or l at 0) (x ++ drop (at + suc (length x)) l) v at (length-take-le at l (omega arith)))

-- a word put behind laid words is laid with them
pub set_over : (at v : ℕ) (x l : List ℕ) → at + length x < length l → set (laid at x l) (at + length x) v ≡ laid at (x ++ (v ∷ [])) l
unfolding laid
set_over at v x l h =
    let e : at + length (x ++ (v ∷ [])) ≡ suc (at + length x) = simp length-append (omega arith) in
    rw (e, drop-cons l (at + length x) 0 h, append_snoc, ← append_assoc (take at l) x (get_or l (at + length x) 0 ∷ drop (suc (at + length x)) l))
    (set_at (take at l ++ x) (get_or l (at + length x) 0) (drop (suc (at + length x)) l) v (at + length x) (head_length at x l (omega arith)) ∙ append_assoc (take at l) x (v ∷ drop (suc (at + length x)) l))

-- what is laid, by what stands before and behind
laid_of : (at : ℕ) (x m t d : List ℕ) → take at m ≡ t → drop (at + length x) m ≡ d → laid at x m ≡ t ++ (x ++ d)
unfolding laid
laid_of at x m t d p q = rw (p, q)

-- two lists of words, laid as one
two_laid : (at : ℕ) (x y l : List ℕ) → (take at l ++ x) ++ (y ++ drop (at + length x + length y) l) ≡ laid at (x ++ y) l
unfolding laid
two_laid at x y l = let e : at + length (x ++ y) ≡ at + length x + length y = simp length-append (omega arith) in rw e (simp append_assoc)

module _ (at : ℕ) (x y l : List ℕ) (fits : at + length x + length y ≤ length l) where
  -- words laid before laid words are laid with them
  pub laid_before : laid at x (laid (at + length x) y l) ≡ laid at (x ++ y) l
  laid_before =
      laid_of at x (laid (at + length x) y l) _ _ (take_laid (at + length x) y l fits at (omega arith)) (drop_at_laid (at + length x) y l fits)
      ∙ sym (append_assoc (take at l) x _) ∙ two_laid at x y l

  -- words laid behind laid words are laid with them
  pub laid_behind : laid (at + length x) y (laid at x l) ≡ laid at (x ++ y) l
  laid_behind =
      let fits' : at + length x ≤ length l = omega arith in
      let head : take (at + length x) (laid at x l) ≡ take at l ++ x =
      take-add at (length x) (laid at x l)
      ∙ ap (λ (z : List ℕ). z ++ take (length x) (drop at (laid at x l))) (take_laid at x l fits' at (omega arith))
      ∙ ap (λ (z : List ℕ). take at l ++ take (length x) z) (drop_at_laid at x l fits')
      ∙ ap (λ (z : List ℕ). take at l ++ z) (take_at x (drop (at + length x) l) (length x) refl) in
      laid_of (at + length x) y (laid at x l) _ _ head (drop_laid at x l fits' (at + length x + length y) (omega arith)) ∙ two_laid at x y l
