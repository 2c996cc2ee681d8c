-- The place that a search finds: a list with one put in its place, or less the first that passes, by that place.
-- Assumes nothing.
use mathlib.Core.Path.{◌≡◌, refl, ap, ◌∙◌}
use mathlib.Core.Bool.{Bool, true, false, cond}
use mathlib.Core.List.{List, [], ◌∷◌, ◌++◌, append-nil}
use Prim.Native.Nat.{ℕ, suc, ◌≤◌}
use native.Mathlib.Omega.{arith}
use lib.ListN.{length, take, drop, drop_of_length-le}
use lib.Seq.{take_all}
use Rattle.model.specs.Lists.{before, put, less_first}
use Rattle.group.specs.Group.{first_of}

module _ {A : Type 0} where
  -- one put in its place stands before the first that it is before
  pub put_placed : (key : A → List ℕ) (a : A) (l : List A)
      → put key a l ≡ take (first_of (λ b. before (key a) (key b)) l) l ++ (a ∷ drop (first_of (λ b. before (key a) (key b)) l) l)
  unfolding put first_of
  put_placed key a [] = refl
  put_placed key a (b ∷ l) = go (before (key a) (key b)) (put_placed key a l)
    where
      go : (t : Bool) → put key a l ≡ take (first_of (λ b. before (key a) (key b)) l) l ++ (a ∷ drop (first_of (λ b. before (key a) (key b)) l) l)
          → cond t (a ∷ b ∷ l) (b ∷ put key a l)
          ≡ take (cond t 0 (suc (first_of (λ b. before (key a) (key b)) l))) (b ∷ l) ++ (a ∷ drop (cond t 0 (suc (first_of (λ b. before (key a) (key b)) l))) (b ∷ l))
      go true e = refl
      go false e = ap (λ (x : List A). b ∷ x) e

  -- the list less the first that passes lacks what stands at that place
  pub less_found : (f : A → Bool) (l : List A) → less_first f l ≡ take (first_of f l) l ++ drop (suc (first_of f l)) l
  unfolding less_first first_of
  less_found f [] = refl
  less_found f (b ∷ l) = go (f b) (less_found f l)
    where
      go : (t : Bool) → less_first f l ≡ take (first_of f l) l ++ drop (suc (first_of f l)) l
          → cond t l (b ∷ less_first f l) ≡ take (cond t 0 (suc (first_of f l))) (b ∷ l) ++ drop (suc (cond t 0 (suc (first_of f l)))) (b ∷ l)
      go true e = refl
      go false e = ap (λ (x : List A). b ∷ x) e

  -- where none passes nothing goes
  pub less_none : (f : A → Bool) (l : List A) → length l ≤ first_of f l → less_first f l ≡ l
  less_none f l h =
      let h' : length l ≤ suc (first_of f l) = omega arith in
      less_found f l ∙ rw (take_all (first_of f l) l h, drop_of_length-le l h') (append-nil l)
