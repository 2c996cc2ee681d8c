-- How many assignments a child has: those between two first places.
-- Assumes nothing.
use mathlib.Core.Path.{◌≡◌, ap, ◌∙◌}
use mathlib.Core.Bool.{Bool, true, false}
use mathlib.Core.List.{List}
use Prim.Native.Nat.{ℕ, zero, suc, ◌+◌, ◌-◌, ◌/◌, ◌≤◌, ◌<◌}
use native.Mathlib.Omega.{arith}
use borrow.Author.Tests.{eq-eqb, ne_eqb, eqb-true}
use lib.Dec.{eqb}
use lib.ListN.{length}
use Rattle.model.specs.Lists.{those, tabulate}
use Rattle.model.specs.Policy.{Assignment}
use Rattle.model.specs.Command.{only_one}
use Rattle.model.proofs.Truth.{same_truth}
use Rattle.table.specs.Layout.{assignment_count, assignment_word}
use Rattle.table.specs.View.{assignment_at, assignments_of, policy_of}
use Rattle.table.specs.Facts.{FirstOf}

-- how many pass, where just those from a up to b do
those_between : {A : Type 0} (t : A → Bool) (n : ℕ) (g : ℕ → A) (a b : ℕ) → b ≤ n
    → ((i : ℕ) → i < a → t (g i) ≡ false) → ((i : ℕ) → a ≤ i → i < b → t (g i) ≡ true) → ((i : ℕ) → b ≤ i → i < n → t (g i) ≡ false)
    → length (those t (tabulate n g)) ≡ b - a
unfolding those tabulate
those_between t zero g a b h p q r = omega arith
those_between t (suc n) g a zero h p q r =
    rw (r 0 (omega arith) (omega arith))
    (those_between t n (λ i. g (suc i)) 0 0 (omega arith) (λ i l. absurd (omega arith)) (λ i l m. absurd (omega arith))
    (λ i l m. r (suc i) (omega arith) (omega arith)) ∙ omega arith)
those_between t (suc n) g zero (suc b) h p q r =
    rw (q 0 (omega arith) (omega arith))
    (ap suc (those_between t n (λ i. g (suc i)) 0 b (omega arith) (λ i l. absurd (omega arith)) (λ i l m. q (suc i) (omega arith) (omega arith))
    (λ i l m. r (suc i) (omega arith) (omega arith))) ∙ omega arith)
those_between t (suc n) g (suc a) (suc b) h p q r =
    rw (p 0 (omega arith))
    (those_between t n (λ i. g (suc i)) a b (omega arith) (λ i l. p (suc i) (omega arith)) (λ i l m. q (suc i) (omega arith) (omega arith))
    (λ i l m. r (suc i) (omega arith) (omega arith)) ∙ omega arith)

-- the assignments of x stand from a up to b
pub assignments_between : (mem : List ℕ) (x a b : ℕ) → FirstOf mem x a → FirstOf mem (x + 1) b
    → length (those (λ (c : Assignment). eqb c.child x) (assignments_of mem)) ≡ b - a
unfolding assignments_of
assignments_between mem x a b f g =
    those_between (λ (c : Assignment). eqb c.child x) (assignment_count mem) (assignment_at mem) a b g.inside
    (λ i l. ne_eqb (assignment_word mem i / 512) x (λ e. omega (arith, f.before i l)))
    (λ i l m. eq-eqb (assignment_word mem i / 512) x (omega (arith, f.from i l (omega (arith, g.inside)), g.before i m)))
    (λ i l m. ne_eqb (assignment_word mem i / 512) x (λ e. omega (arith, g.from i l m)))

-- x has just one exactly if those of the next child start one behind
pub only_one_lem : (mem : List ℕ) (x a b : ℕ) → FirstOf mem x a → FirstOf mem (x + 1) b → eqb b (a + 1) ≡ only_one (policy_of mem) x
unfolding only_one policy_of
only_one_lem mem x a b f g =
    rw (assignments_between mem x a b f g)
    (same_truth (eqb b (a + 1)) (eqb (b - a) 1)
    (λ e. eq-eqb (b - a) 1 (omega (arith, eqb-true b (a + 1) e)))
    (λ e. eq-eqb b (a + 1) (omega (arith, eqb-true (b - a) 1 e))))
