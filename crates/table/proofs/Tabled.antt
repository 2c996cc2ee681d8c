-- Lists that are told off one by one: who is in them, when they rise, and what a test over them says of each.
-- Assumes nothing.
use mathlib.Core.Path.{◌≡◌, refl, sym}
use mathlib.Core.Bool.{true}
use mathlib.Core.List.{List}
use mathlib.Core.Logic.{⊎_elim}
use Prim.Native.Nat.{ℕ, zero, suc, ◌<◌}
use native.Mathlib.Nat.{le_of_suc-le-suc, not-suc-le-zero}
use native.Mathlib.Omega.{arith}
use Rattle.model.specs.Lists.{In, first, later, tabulate, before, precedes, rising}
use Rattle.model.proofs.Truth.{and_join, in_cons, none_in}

-- a is f i for some i below n
pub record Told {A : Type 0} (n : ℕ) (f : ℕ → A) (a : A) : Type 0 where
  pub at : ℕ
  pub early : at < n
  pub is : f at ≡ a

module _ {A : Type 0} where
  -- each is in the list
  pub in_tabulate : (n : ℕ) (f : ℕ → A) (i : ℕ) → i < n → In (f i) (tabulate n f)
  unfolding tabulate
  in_tabulate zero f i h = absurd (not-suc-le-zero h)
  in_tabulate (suc n) f zero h = first
  in_tabulate (suc n) f (suc i) h = later (in_tabulate n (λ j. f (suc j)) i (le_of_suc-le-suc h))

  -- and nothing else is
  pub tabulate_in : {a : A} (n : ℕ) (f : ℕ → A) → In a (tabulate n f) → Told n f a
  unfolding tabulate
  tabulate_in zero f i = absurd (none_in i)
  tabulate_in {a} (suc n) f i = ⊎_elim here (λ j. there (tabulate_in n (λ j. f (suc j)) j)) (in_cons i)
    where
      here : a ≡ f 0 → Told (suc n) f a
      here e = record { at = 0; early = omega arith; is = sym e }

      there : Told n (λ j. f (suc j)) a → Told (suc n) f a
      there t = record { at = suc t.at; early = omega (arith, t.early); is = t.is }

  -- a list that rises from each to the next rises
  pub rising_tabulate : (key : A → List ℕ) (n : ℕ) (f : ℕ → A) → ((i : ℕ) → suc i < n → before (key (f i)) (key (f (suc i))) ≡ true) → rising key (tabulate n f) ≡ true
  unfolding tabulate rising precedes
  rising_tabulate key zero f h = refl
  rising_tabulate key (suc zero) f h = refl
  rising_tabulate key (suc (suc n)) f h =
      and_join (before (key (f 0)) (key (f 1))) (rising key (tabulate (suc n) (λ j. f (suc j)))) (h 0 (omega arith))
      (rising_tabulate key (suc n) (λ j. f (suc j)) (λ i l. h (suc i) (omega arith)))
