-- The lowest of a list with one more at its end.
-- Assumes nothing.
use mathlib.Core.Path.{◌≡◌, refl, ap, ◌∙◌}
use mathlib.Core.Bool.{Bool, true, false, cond}
use mathlib.Core.List.{List, [], ◌∷◌, ◌++◌}
use mathlib.Core.Logic.{inl, inr}
use Prim.Native.Nat.{ℕ, zero, suc}
use Rattle.model.specs.Lists.{In, those, tabulate, one, before, lowest_of}
use Rattle.model.specs.Policy.{Association, association_fields}
use Rattle.model.specs.Explain.{lowest_association}
use Rattle.model.proofs.Truth.{clash, none_in, fails_when}
use Rattle.model.proofs.Order.{before_between}
use Rattle.model.proofs.Decisions.Lowest.{lowest_least}

module _ {A : Type 0} where
  -- f 0 and so on, the last of them apart
  pub tabulate_last : (n : ℕ) (f : ℕ → A) → tabulate (suc n) f ≡ tabulate n f ++ one (f n)
  unfolding tabulate
  tabulate_last zero f = refl
  tabulate_last (suc n) f = ap (λ (l : List A). f 0 ∷ l) (tabulate_last n (λ i. f (suc i)))

  -- those of a list with one more that passes
  pub those_with : (f : A → Bool) (l : List A) (b : A) → f b ≡ true → those f (l ++ one b) ≡ those f l ++ one b
  unfolding those
  those_with f [] b e = rw e
  those_with f (a ∷ l) b e = go (f a) (those_with f l b e)
    where
      go : (t : Bool) → those f (l ++ one b) ≡ those f l ++ one b
          → cond t (a ∷ those f (l ++ one b)) (those f (l ++ one b)) ≡ cond t (a ∷ those f l) (those f l) ++ one b
      go true k = ap (λ (m : List A). a ∷ m) k
      go false k = k

  -- and with one more that does not
  pub those_without : (f : A → Bool) (l : List A) (b : A) → f b ≡ false → those f (l ++ one b) ≡ those f l
  unfolding those
  those_without f [] b e = rw e
  those_without f (a ∷ l) b e = ap (λ (m : List A). cond (f a) (a ∷ m) m) (those_without f l b e)

  module _ (key : A → List ℕ) where
    -- the lowest with one more is the lower of the two
    pub lowest_with : (a : A) (l : List A) (b : A) → lowest_of key a (l ++ one b) ≡ cond (before (key b) (key (lowest_of key a l))) b (lowest_of key a l)
    unfolding lowest_of
    lowest_with a [] b = refl
    lowest_with a (c ∷ l) b = lowest_with (cond (before (key c) (key a)) c a) l b

-- one that is not before some member of the list is not before its lowest, and leaves it the lowest
pub lowest_kept : (l : List Association) (a b : Association) → In a l → before (association_fields b) (association_fields a) ≡ false
    → lowest_association (l ++ one b) ≡ lowest_association l
lowest_kept [] a b i e = absurd (none_in i)
lowest_kept (c ∷ l) a b i e =
    let low : Association = lowest_of association_fields c l in
    lowest_with association_fields c l b ∙ ap (λ (t : Bool). cond t b low) (fails_when (before (association_fields b) (association_fields low)) higher)
  where
    higher : before (association_fields b) (association_fields (lowest_of association_fields c l)) ≡ true → ⊥
    higher h = elim (before_between (association_fields b) (association_fields a) (association_fields (lowest_of association_fields c l)) h) [
      | inl k ↦ clash k e
      | inr k ↦ clash k (lowest_least association_fields c l a i)
    ]
