-- What an alternative asks, argument by argument, and the verdict by an operation's first and second alternative.
-- Assumes nothing.
use mathlib.Core.Path.{◌≡◌, refl, sym, ap, ap₂, ◌∙◌}
use mathlib.Core.Bool.{Bool, true, false, ◌&&◌, and-true}
use mathlib.Core.List.{List, [], ◌∷◌, map}
use Prim.Native.Nat.{ℕ, zero, suc, ◌≤◌, ◌<◌}
use native.Mathlib.Omega.{arith}
use lib.ListN.{length, get_or, drop}
use Rattle.model.specs.Lists.{all_of, three}
use Rattle.model.specs.Policy.{Policy}
use Rattle.model.specs.Request.{Request, Rights, Alternative, operation_of, alternatives_of, Asked, asked, grant, deny, satisfied, lowest_satisfied, verdict}
use Rattle.model.proofs.Truth.{all_append}
use Rattle.request.specs.Sets.{set_of, right_sets, capabilities}
use Rattle.request.proofs.Operations.{rest_at, some_alternative, second_set, second_none, second_some}

-- The sets of rights, as the code reads them.
module _ (n : ℕ) where
  -- of the first alternative
  pub first_sets : get_or (capabilities n) 0 [] ≡ right_sets (get_or (operation_of n).alternatives 0 [])
  unfolding capabilities
  first_sets = refl

  -- of the second
  pub second_sets : get_or (capabilities n) 1 [] ≡ right_sets (get_or (operation_of n).alternatives 1 [])
  unfolding capabilities
  second_sets = refl

  -- what the second asks of the first argument
  pub second_read : get_or (get_or (capabilities n) 1 []) 0 0 ≡ second_set n
  unfolding capabilities right_sets
  second_read = refl

-- what an alternative asks of one of three arguments
pub set_at : (alternative : Alternative) (k : ℕ) → k < 3 → get_or (right_sets alternative) k 0 ≡ set_of (get_or alternative k [])
unfolding right_sets
set_at alternative zero h = refl
set_at alternative (suc zero) h = refl
set_at alternative (suc (suc zero)) h = refl
set_at alternative (suc (suc (suc k))) h = absurd (omega arith)

-- the right r asked of the element e in the place i
abbrev pub asked_at : (i e r : ℕ) → Asked
asked_at i e r = record { argument = i; element = e; right = r }

-- A test on all that an alternative asks.
module _ (f : Asked → Bool) where
  -- over one argument
  all_map : (i e : ℕ) (rs : Rights) → all_of f (map (asked_at i e) rs) ≡ all_of (λ r. f (asked_at i e r)) rs
  unfolding all_of
  all_map i e [] = refl
  all_map i e (r ∷ rs) = ap (◌&&◌ (f (asked_at i e r))) (all_map i e rs)

  -- of no argument nothing is asked
  asked_none : (i : ℕ) (alternative : Alternative) → all_of f (asked i alternative []) ≡ true
  unfolding asked all_of
  asked_none i [] = refl
  asked_none i (rs ∷ more) = refl

  -- an alternative of nothing asks nothing
  asked_nothing : (i : ℕ) (es : List ℕ) → all_of f (asked i [] es) ≡ true
  unfolding asked all_of
  asked_nothing i [] = refl
  asked_nothing i (e ∷ es) = refl

  -- of one argument and those behind it
  asked_next : (i : ℕ) (alternative : Alternative) (e : ℕ) (es : List ℕ)
      → all_of f (asked i alternative (e ∷ es)) ≡ (all_of (λ r. f (asked_at i e r)) (get_or alternative 0 []) && all_of f (asked (suc i) (drop 1 alternative) es))
  unfolding asked all_of
  asked_next i [] e es = sym (asked_nothing (suc i) es)
  asked_next i (rs ∷ more) e es =
      all_append f (map (asked_at i e) rs) (asked (suc i) more es) ∙ ap (λ t. t && all_of f (asked (suc i) more es)) (all_map i e rs)

  -- all passes exactly if what it asks of the first, of the second and of the third argument does
  pub asked_parts : (alternative : Alternative) (a b c : ℕ) → all_of f (asked 1 alternative (three a b c))
      ≡ (all_of (λ r. f (asked_at 1 a r)) (get_or alternative 0 [])
      && (all_of (λ r. f (asked_at 2 b r)) (get_or alternative 1 []) && all_of (λ r. f (asked_at 3 c r)) (get_or alternative 2 [])))
  asked_parts alternative a b c =
      let m : Alternative = drop 1 alternative in
      let l : Alternative = drop 1 m in
      let last : all_of f (asked 3 l (c ∷ [])) ≡ all_of (λ r. f (asked_at 3 c r)) (get_or alternative 2 []) =
      asked_next 3 l c []
      ∙ ap (◌&&◌ (all_of (λ r. f (asked_at 3 c r)) (get_or l 0 []))) (asked_none 4 (drop 1 l))
      ∙ and-true (all_of (λ r. f (asked_at 3 c r)) (get_or l 0 []))
      ∙ ap (all_of (λ r. f (asked_at 3 c r))) (rest_at m 0 ∙ rest_at alternative 1) in
      let middle : all_of f (asked 2 m (b ∷ c ∷ [])) ≡ (all_of (λ r. f (asked_at 2 b r)) (get_or alternative 1 []) && all_of (λ r. f (asked_at 3 c r)) (get_or alternative 2 [])) =
      asked_next 2 m b (c ∷ []) ∙ ap₂ ◌&&◌ (ap (all_of (λ r. f (asked_at 2 b r))) (rest_at alternative 0)) last in
      asked_next 1 alternative a (b ∷ c ∷ []) ∙ ap (◌&&◌ (all_of (λ r. f (asked_at 1 a r)) (get_or alternative 0 []))) middle

-- The verdict, by which of the alternatives allow it.
module _ (W : ℕ → ℕ → Bool) (p : Policy) (q : Request) where
  -- the first of a list of alternatives allows it
  lowest_first : (l : List Alternative) → 1 ≤ length l → satisfied W p q (get_or l 0 []) ≡ true → lowest_satisfied W p q 1 l ≡ grant 1
  unfolding lowest_satisfied
  lowest_first [] n h = absurd (omega arith)
  lowest_first (a ∷ more) n h = rw h

  -- only the second of two does
  lowest_second : (l : List Alternative) → length l ≡ 2 → satisfied W p q (get_or l 0 []) ≡ false → satisfied W p q (get_or l 1 []) ≡ true
      → lowest_satisfied W p q 1 l ≡ grant 2
  unfolding lowest_satisfied
  lowest_second [] n g h = absurd (omega arith)
  lowest_second (a ∷ []) n g h = absurd (omega arith)
  lowest_second (a ∷ b ∷ more) n g h = rw (g, h)

  -- the one that there is does not
  lowest_none_one : (l : List Alternative) → length l ≤ 1 → satisfied W p q (get_or l 0 []) ≡ false → lowest_satisfied W p q 1 l ≡ deny
  unfolding lowest_satisfied
  lowest_none_one [] n g = refl
  lowest_none_one (a ∷ []) n g = rw g
  lowest_none_one (a ∷ b ∷ more) n g = absurd (omega arith)

  -- neither of two does
  lowest_none_two : (l : List Alternative) → length l ≡ 2 → satisfied W p q (get_or l 0 []) ≡ false → satisfied W p q (get_or l 1 []) ≡ false
      → lowest_satisfied W p q 1 l ≡ deny
  unfolding lowest_satisfied
  lowest_none_two [] n g h = absurd (omega arith)
  lowest_none_two (a ∷ []) n g h = absurd (omega arith)
  lowest_none_two (a ∷ b ∷ []) n g h = rw (g, h)
  lowest_none_two (a ∷ b ∷ c ∷ more) n g h = absurd (omega arith)

  -- the first alternative of one of the nine operations allows it: granted by 1
  pub verdict_first : 1 ≤ q.operation → q.operation ≤ 9 → satisfied W p q (get_or (alternatives_of q) 0 []) ≡ true → verdict W p q ≡ grant 1
  unfolding verdict
  verdict_first l h s = lowest_first (alternatives_of q) (some_alternative q.operation l h) s

  -- The first does not.
  module _ (g : satisfied W p q (get_or (alternatives_of q) 0 []) ≡ false) where
    -- there is no second: denied
    pub verdict_none_one : second_set q.operation ≡ 0 → verdict W p q ≡ deny
    unfolding verdict
    verdict_none_one z = lowest_none_one (alternatives_of q) (second_none q.operation z) g

    module _ (d : second_set q.operation ≡ 0 → ⊥) where
      -- the second allows it: granted by 2
      pub verdict_second : satisfied W p q (get_or (alternatives_of q) 1 []) ≡ true → verdict W p q ≡ grant 2
      unfolding verdict
      verdict_second s = lowest_second (alternatives_of q) (second_some q.operation d) g s

      -- the second does not: denied
      pub verdict_none_two : satisfied W p q (get_or (alternatives_of q) 1 []) ≡ false → verdict W p q ≡ deny
      unfolding verdict
      verdict_none_two s = lowest_none_two (alternatives_of q) (second_some q.operation d) g s
