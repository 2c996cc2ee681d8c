-- Loops that look for one, and loops that test each: a test over a list that is told off one by one, as far as a loop has come.
-- Assumes nothing.
use mathlib.Core.Path.{◌≡◌, refl, sym, ap, fun_ext, ◌∙◌}
use mathlib.Core.Bool.{Bool, true, false, not, ◌&&◌, ◌||◌, or-false, or_assoc}
use mathlib.Core.List.{List, [], ◌∷◌}
use Prim.Native.Nat.{ℕ, zero, suc, ◌+◌, ◌≤◌, ◌<◌}
use native.Mathlib.Omega.{arith}
use native.Mathlib.Decide.{dec_lt}
use borrow.Author.Tests.{not-true, not-false}
use Rattle.model.specs.Lists.{any_of, all_of, tabulate}
use Rattle.model.proofs.Truth.{clash, fails_when, any_in, all_in, all_of_lem}
use Rattle.table.proofs.Tabled.{in_tabulate, tabulate_in}

module _ {A : Type 0} (f : A → Bool) where
  -- nothing is below 0
  pub any_none : (g : ℕ → A) → any_of f (tabulate 0 g) ≡ false
  unfolding any_of tabulate
  any_none g = refl

  -- one more, with the first of them apart
  any_suc : (g : ℕ → A) (i : ℕ) → any_of f (tabulate (suc i) g) ≡ (any_of f (tabulate i g) || f (g i))
  unfolding any_of tabulate
  any_suc g zero = or-false (f (g 0))
  any_suc g (suc i) =
      ap (λ (b : Bool). f (g 0) || b) (any_suc (λ j. g (suc j)) i)
      ∙ sym (or_assoc (f (g 0)) (any_of f (tabulate i (λ j. g (suc j)))) (f (g (suc i))))

  -- one more: some before it, or it
  pub any_more : (g : ℕ → A) (i : ℕ) → any_of f (tabulate (i + 1) g) ≡ (any_of f (tabulate i g) || f (g i))
  any_more g i = let e : i + 1 ≡ suc i = omega arith in rw e (any_suc g i)

  module _ (g : ℕ → A) where
    -- none so far, and not this one: none so far
    pub any_not_yet : (i : ℕ) → any_of f (tabulate i g) ≡ false → f (g i) ≡ false → any_of f (tabulate (i + 1) g) ≡ false
    any_not_yet i none e = rw (any_more g i, none) e

    -- one of them is found
    pub any_found : (n i : ℕ) → i < n → f (g i) ≡ true → true ≡ any_of f (tabulate n g)
    any_found n i l e = sym (any_in f (in_tabulate n g i l) e)

    -- the loop is at its end
    pub any_end : (n i : ℕ) → i ≤ n → n ≤ i → any_of f (tabulate i g) ≡ false → false ≡ any_of f (tabulate n g)
    any_end n i l h none = let q : n ≡ i = omega arith in rw q (sym none)

  -- lists told off from the same are tested alike
  pub any_alike : (n : ℕ) {g h : ℕ → A} → ((i : ℕ) → g i ≡ h i) → any_of f (tabulate n g) ≡ any_of f (tabulate n h)
  any_alike n e = ap (λ (g : ℕ → A). any_of f (tabulate n g)) (fun_ext e)

  -- each passes unless some does not
  pub all_unless : (l : List A) → all_of f l ≡ not (any_of (λ a. not (f a)) l)
  unfolding any_of all_of
  all_unless [] = refl
  all_unless (a ∷ l) = rw (all_unless l) (either (f a) (any_of (λ a. not (f a)) l))
    where
      either : (x y : Bool) → (x && not y) ≡ not (not x || y)
      either true y = refl
      either false y = refl

  -- none passes unless some does
  pub none_unless : (l : List A) → all_of (λ a. not (f a)) l ≡ not (any_of f l)
  unfolding any_of all_of
  none_unless [] = refl
  none_unless (a ∷ l) = rw (none_unless l) (neither (f a) (any_of f l))
    where
      neither : (x y : Bool) → (not x && not y) ≡ not (x || y)
      neither true y = refl
      neither false y = refl

-- each of the first i of n passes the test
pub record AllTo {A : Type 0} (f : A → Bool) (g : ℕ → A) (n i : ℕ) : Type 0 where
  pub inside : i ≤ n
  pub each : (k : ℕ) → k < i → f (g k) ≡ true

-- a loop that tests each of n
module _ {A : Type 0} (f : A → Bool) (g : ℕ → A) where
  -- none was looked at
  pub all_none : (n : ℕ) → AllTo f g n 0
  all_none n = record { inside = omega arith; each = λ k h. absurd (omega arith) }

  module _ (i : ℕ) {b : Bool} (is : b ≡ f (g i)) where
    -- one more passes
    pub all_more : {n : ℕ} → AllTo f g n i → i < n → not b ≡ false → AllTo f g n (i + 1)
    all_more s l h = record {
      inside = omega arith;
      each = λ k a. elim (dec_lt k i) [ yes e ↦ s.each k e | no e ↦ let q : k ≡ i = omega arith in rw q (sym is ∙ not-false b h) ];
    }

    -- one does not
    pub all_fails : (n m : ℕ) → n ≡ m → i < n → not b ≡ true → false ≡ all_of f (tabulate m g)
    all_fails n m count l h =
        sym (fails_when (all_of f (tabulate m g)) (λ e. clash (all_in f e (in_tabulate m g i (omega arith))) (sym is ∙ not-true b h)))

  -- all do
  pub all_end : (n m : ℕ) → n ≡ m → {i : ℕ} → AllTo f g n i → n ≤ i → true ≡ all_of f (tabulate m g)
  all_end n m count s l =
      sym (all_of_lem f (tabulate m g) (λ a t. let w = tabulate_in m g t in rw (← w.is) (s.each w.at (omega (arith, w.early)))))
