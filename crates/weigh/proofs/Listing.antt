-- How many ids the prohibitions of a table list.
-- Assumes nothing.
use mathlib.Core.Path.{◌≡◌, refl, ap, ◌∙◌}
use mathlib.Core.List.{List, [], ◌∷◌}
use Prim.Native.Nat.{ℕ, zero, suc, ◌+◌, ◌*◌, ◌≤◌, ◌<◌}
use native.Mathlib.Omega.{arith}
use lib.ListN.{length, length-append}
use Rattle.std.specs.List.{sum_by}
use Rattle.std.proofs.lemmas.List.Sums.{sum_by-cons}
use Rattle.model.specs.Lists.{tabulate}
use Rattle.model.specs.Policy.{Prohibition}
use Rattle.model.specs.Sound.{listed}
use Rattle.table.specs.Layout.{prohibition_count, prohibition_start}
use Rattle.table.specs.View.{inclusion_count, exclusion_count, prohibition_at, prohibitions_of, policy_of}
use Rattle.table.specs.Facts.{Table, AtMost}
use Rattle.table.proofs.Listed.{inclusions_long, exclusions_long}
use Rattle.weigh.specs.Counts.{listed_in}

-- all together, as a sum
sum_listed : (l : List Prohibition) → sum_by (λ b. length (listed b)) l ≡ listed_in l
unfolding listed_in
sum_listed [] = refl
sum_listed (b ∷ l) = sum_by-cons (λ b. length (listed b)) b l ∙ ap (λ (k : ℕ). length (listed b) + k) (sum_listed l)

-- n prohibitions that list at most eight each
listed_few : (n : ℕ) (f : ℕ → Prohibition) → ((i : ℕ) → i < n → length (listed (f i)) ≤ 8) → listed_in (tabulate n f) ≤ 8 * n
unfolding listed_in tabulate
listed_few zero f h = omega arith
listed_few (suc n) f h = let e = listed_few n (λ i. f (suc i)) (λ i l. h (suc i) (omega arith)) in omega (arith, h 0 (omega arith))

-- prohibition i lists its inclusions and its exclusions
pub listed_both : (mem : List ℕ) (i : ℕ) {a b : ℕ} → AtMost (inclusion_count mem (prohibition_start i)) 4 a → AtMost (exclusion_count mem (prohibition_start i)) 4 b
    → a + b ≡ length (listed (prohibition_at mem i))
listed_both mem i x y =
    let e = length-append (prohibition_at mem i).inclusion (prohibition_at mem i).exclusion in
    omega (arith, inclusions_long mem i, exclusions_long mem i, x.is, y.is)

module _ {mem : List ℕ} where
  -- at most four each
  within_eight : Table mem → (i : ℕ) → i < prohibition_count mem → length (listed (prohibition_at mem i)) ≤ 8
  within_eight t i h =
      let e = length-append (prohibition_at mem i).inclusion (prohibition_at mem i).exclusion in
      let s = t.short i h in
      omega (arith, inclusions_long mem i, exclusions_long mem i, s.few_inclusions, s.few_exclusions)

  -- all that are listed
  pub listed_fit : Table mem → sum_by (λ b. length (listed b)) (tabulate (prohibition_count mem) (prohibition_at mem)) ≤ 1600
  listed_fit t =
      omega (arith, sum_listed (tabulate (prohibition_count mem) (prohibition_at mem)), listed_few (prohibition_count mem) (prohibition_at mem) (within_eight t), t.few_prohibitions)

  -- and so as many as the sum says
  pub listed_all : Table mem → {r : ℕ} → r ≡ sum_by (λ b. length (listed b)) (tabulate (prohibition_count mem) (prohibition_at mem))
      → AtMost (listed_in (policy_of mem).prohibitions) 1600 r
  unfolding policy_of prohibitions_of
  listed_all t {r} e = record { is = e ∙ sum_listed (tabulate (prohibition_count mem) (prohibition_at mem)); few = omega (arith, listed_fit t) }
