-- Two lists of 32,768 bytes are compared place by place, to the end.
-- Assumes nothing.
use mathlib.Core.Path.{◌≡◌, refl, sym, ap, ◌∙◌}
use mathlib.Core.Bool.{Bool, true, ◌&&◌, and-true, and_assoc}
use mathlib.Core.List.{List, [], ◌∷◌}
use Prim.Native.Nat.{ℕ, suc, ◌+◌, ◌≤◌, ◌<◌}
use native.Mathlib.Omega.{arith}
use lib.Dec.{eqb}
use lib.ListN.{length, get_or, drop, drop_of_length-le}
use lib.Seq.{drop-cons}
use Rattle.model.specs.Lists.{same}

-- the lists are the same exactly if the first i bytes are alike and the others are the same
pub record SameTo (a b : List ℕ) (alike : Bool) (i : ℕ) : Type 0 where
  pub inside : i ≤ 32768
  pub is : same a b ≡ (alike && same (drop i a) (drop i b))

-- no byte is compared yet
pub same_none : (a b : List ℕ) → SameTo a b true 0
same_none a b = record { inside = omega arith; is = refl }

-- the first byte, then the others
same_first : (x y : ℕ) (a b : List ℕ) → same (x ∷ a) (y ∷ b) ≡ (eqb x y && same a b)
unfolding same
same_first x y a b = refl

module _ {a b : List ℕ} {alike : Bool} {i : ℕ} (s : SameTo a b alike i) (m : length a ≡ 32768) (n : length b ≡ 32768) where
  -- one byte more is compared
  pub same_more : i < 32768 → SameTo a b (alike && eqb (get_or a i 0) (get_or b i 0)) (i + 1)
  same_more h = record { inside = omega arith; is = s.is ∙ ap (λ (r : Bool). alike && r) next ∙ sym (and_assoc alike (eqb (get_or a i 0) (get_or b i 0)) _) }
    where
      next : same (drop i a) (drop i b) ≡ (eqb (get_or a i 0) (get_or b i 0) && same (drop (i + 1) a) (drop (i + 1) b))
      next =
          let e : i + 1 ≡ suc i = omega arith in
          rw (e, drop-cons a i 0 (omega arith), drop-cons b i 0 (omega arith)) (same_first _ _ _ _)

  -- all bytes are compared
  pub same_all : 32768 ≤ i → alike ≡ same a b
  unfolding same
  same_all h =
      let e : drop i a ≡ [] = drop_of_length-le a {i = i} (omega arith) in
      let f : drop i b ≡ [] = drop_of_length-le b {i = i} (omega arith) in
      sym (s.is ∙ rw (e, f) (and-true alike))
