-- What one class names, association after association: the lowest of those so far that pass a test.
-- Assumes nothing.
use mathlib.Core.Path.{◌≡◌, refl, sym, ap, ◌∙◌}
use mathlib.Core.Bool.{Bool, true, false, cond}
use mathlib.Core.List.{List, [], ◌∷◌, ◌++◌}
use Prim.Native.Nat.{ℕ, zero, suc, ◌+◌, ◌≤◌}
use native.Mathlib.Omega.{arith}
use Rattle.model.specs.Lists.{In, first, those, tabulate, one, empty, before, lowest_of}
use Rattle.model.specs.Policy.{Association, association_fields}
use Rattle.model.specs.Explain.{lowest_association}
use Rattle.model.proofs.Truth.{clash, passes, fails, tested, those_pass, not_empty, in_right}
use Rattle.model.proofs.Decisions.Lowest.{lowest_in_lem}
use Rattle.table.specs.View.{association_at}
use Rattle.lowest.specs.Named.{named, is_before, is_lower, lower_name}
use Rattle.lowest.proofs.Firsts.{tabulate_last, those_with, those_without, lowest_with, lowest_kept}

-- the name is that of the lowest of the first i associations that pass the test; where none passes, it is 0
pub record LowestNamed (mem : List ℕ) (f : Association → Bool) (i name : ℕ) : Type 0 where
  pub few : name ≤ i
  pub is : named mem name ≡ lowest_association (those f (tabulate i (association_at mem)))
  pub none : empty (those f (tabulate i (association_at mem))) ≡ true → name ≡ 0

-- at first none is named
pub named_none : (mem : List ℕ) (f : Association → Bool) → LowestNamed mem f 0 0
unfolding those tabulate
named_none mem f = record { few = omega arith; is = refl; none = λ e. refl }

-- the lower of what is named and one more is the lowest of all
lower_is_lowest : (mem : List ℕ) (l : List Association) (name i : ℕ) → named mem name ≡ lowest_association l → (empty l ≡ true → name ≡ 0) → (name ≡ 0 → empty l ≡ true)
    → named mem (lower_name mem name i) ≡ lowest_association (l ++ one (association_at mem i))
unfolding lower_name is_lower empty lowest_of
lower_is_lowest mem [] name i e n s = rw (n refl)
lower_is_lowest mem (a ∷ l) zero i e n s = absurd (clash (s refl) refl)
lower_is_lowest mem (a ∷ l) (suc j) i e n s =
    go (is_before mem i j) ∙ ap (λ (b : Association). cond (before (association_fields (association_at mem i)) (association_fields b)) (association_at mem i) b) e
    ∙ sym (lowest_with association_fields a l (association_at mem i))
  where
    go : (t : Bool) → named mem (cond t (suc i) (suc j)) ≡ cond t (association_at mem i) (association_at mem j)
    go true = refl
    go false = refl

module _ {mem : List ℕ} {f : Association → Bool} {i name : ℕ} (h : LowestNamed mem f i name) where
  -- those of the first i that pass
  abbrev far : List Association
  far = those f (tabulate i (association_at mem))

  -- with one more that passes
  far_with : f (association_at mem i) ≡ true → those f (tabulate (i + 1) (association_at mem)) ≡ far ++ one (association_at mem i)
  far_with e =
      let s : i + 1 ≡ suc i = omega arith in
      rw s (ap (those f) (tabulate_last i (association_at mem)) ∙ those_with f (tabulate i (association_at mem)) (association_at mem i) e)

  -- with one more that does not
  far_without : f (association_at mem i) ≡ false → those f (tabulate (i + 1) (association_at mem)) ≡ far
  far_without e =
      let s : i + 1 ≡ suc i = omega arith in
      rw s (ap (those f) (tabulate_last i (association_at mem)) ∙ those_without f (tabulate i (association_at mem)) (association_at mem i) e)

  -- an association that does not pass changes nothing
  pub named_still : f (association_at mem i) ≡ false → LowestNamed mem f (i + 1) name
  named_still e = record {
    few = omega (arith, h.few);
    is = h.is ∙ sym (ap lowest_association (far_without e));
    none = λ z. h.none (sym (ap empty (far_without e)) ∙ z);
  }

  -- with one that passes there are some
  some_far : f (association_at mem i) ≡ true → empty (those f (tabulate (i + 1) (association_at mem))) ≡ true → ⊥
  some_far e z = clash (sym (ap empty (far_with e)) ∙ z) (not_empty (in_right far first))

  -- where there are some, so there are with one more
  pub some_more : empty far ≡ false → empty (those f (tabulate (i + 1) (association_at mem))) ≡ false
  some_more s = elim (tested (f (association_at mem i))) [
    | passes e ↦ ap empty (far_with e) ∙ not_empty (in_right far first)
    | fails e ↦ ap empty (far_without e) ∙ s
  ]

  -- an association that passes and is not before another that passes changes nothing
  pub named_kept : f (association_at mem i) ≡ true → (a : Association) → In a far → before (association_fields (association_at mem i)) (association_fields a) ≡ false
      → LowestNamed mem f (i + 1) name
  named_kept e a p b = record {
    few = omega (arith, h.few);
    is = h.is ∙ sym (ap lowest_association (far_with e) ∙ lowest_kept far a (association_at mem i) p b);
    none = λ z. absurd (some_far e z);
  }

  -- where zeros do not pass, 0 names none: none of the first i passes
  pub none_far : f (named mem 0) ≡ false → name ≡ 0 → empty far ≡ true
  unfolding empty
  none_far z e = go far (sym (ap (named mem) e) ∙ h.is) (λ a p. those_pass f (tabulate i (association_at mem)) p)
    where
      go : (l : List Association) → named mem 0 ≡ lowest_association l → ((a : Association) → In a l → f a ≡ true) → empty l ≡ true
      go [] q k = refl
      go (a ∷ l) q k = absurd (clash (ap f q ∙ k (lowest_association (a ∷ l)) (lowest_in_lem association_fields a l)) z)

  -- an association that passes: the lower of the two is named
  pub named_lower : f (named mem 0) ≡ false → f (association_at mem i) ≡ true → LowestNamed mem f (i + 1) (lower_name mem name i)
  unfolding lower_name
  named_lower z e = record {
    few = go (is_lower mem name i);
    is = lower_is_lowest mem far name i h.is h.none (none_far z) ∙ sym (ap lowest_association (far_with e));
    none = λ q. absurd (some_far e q);
  }
    where
      go : (t : Bool) → cond t (suc i) name ≤ i + 1
      go true = omega arith
      go false = omega (arith, h.few)

  -- what is named is one of the first i that pass
  pub named_far : (j : ℕ) → name ≡ suc j → In (association_at mem j) far
  unfolding empty
  named_far j e = go far (sym (ap (named mem) e) ∙ h.is) h.none
    where
      go : (l : List Association) → association_at mem j ≡ lowest_association l → (empty l ≡ true → name ≡ 0) → In (association_at mem j) l
      go [] q k = absurd (omega (arith, k refl, e))
      go (a ∷ l) q k = rw q (lowest_in_lem association_fields a l)
