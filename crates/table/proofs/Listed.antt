-- The lists of a prohibition, and the parts of the words that they are.
-- Assumes nothing.
use mathlib.Core.Path.{◌≡◌, refl, sym, ◌∙◌}
use mathlib.Core.List.{List}
use Prim.Native.Nat.{ℕ, ◌+◌, ◌*◌, ◌-◌, ◌/◌, ◌%◌, ◌≤◌, ◌<◌}
use native.Mathlib.Omega.{arith}
use lib.ListN.{length, take, drop, get_or, length-take, length-drop}
use lib.Seq.{ext_get_or, get_or-take, get_or-drop}
use Rattle.model.specs.Lists.{tabulate}
use Rattle.model.proofs.Indexed.{length_tabulate, get_d_tabulate}
use Rattle.table.specs.Layout.{word, prohibition_count, prohibition_start}
use Rattle.table.specs.View.{inclusion_count, exclusion_count, prohibition_at}
use Rattle.table.specs.Facts.{Table, AtMost}

module _ {mem : List ℕ} (t : Table mem) (i : ℕ) (h : i < prohibition_count mem) where
  -- at most four inclusions
  pub inclusions_few : AtMost (inclusion_count mem (prohibition_start i)) 4 (word mem (5776 + 11 * i + 2) / 8 % 8)
  inclusions_few = let y = t.short i h in record { is = omega (arith, y.few_inclusions); few = omega (arith, y.few_inclusions) }

  -- at most four exclusions
  pub exclusions_few : AtMost (exclusion_count mem (prohibition_start i)) 4 (word mem (5776 + 11 * i + 2) % 8)
  exclusions_few = let y = t.short i h in record { is = omega arith; few = y.few_exclusions }

-- n words from a place on, told off
part_told : (mem : List ℕ) (from n : ℕ) → from + n ≤ length mem → take n (drop from mem) ≡ tabulate n (λ k. word mem (from + k))
part_told mem from n h =
    let l : length (take n (drop from mem)) ≡ n = simp (length-take, length-drop) (omega arith) in
    ext_get_or 0 (take n (drop from mem)) (tabulate n (λ k. word mem (from + k))) (l ∙ sym (length_tabulate n (λ k. word mem (from + k))))
    (λ k a. get_or-take n (drop from mem) k 0 (omega arith) ∙ get_or-drop from mem k 0 ∙ sym (get_d_tabulate n (λ k. word mem (from + k)) k 0 (omega arith)))

-- Its lists, as parts of the words.
module _ {mem : List ℕ} (t : Table mem) (i : ℕ) (h : i < prohibition_count mem) {n : ℕ} (few : AtMost (inclusion_count mem (prohibition_start i)) 4 n) where
  -- the first words behind the third are its inclusions
  pub inclusion_lent : take (5776 + 11 * i + 3 + n - (5776 + 11 * i + 3)) (drop (5776 + 11 * i + 3) mem) ≡ (prohibition_at mem i).inclusion
  inclusion_lent =
      let w : 5776 + 11 * i + 3 + n - (5776 + 11 * i + 3) ≡ n = omega arith in
      rw w (part_told mem (5776 + 11 * i + 3) n (omega (arith, t.size, t.few_prohibitions)) ∙ rw few.is refl)

  -- the next are its exclusions
  pub exclusion_lent : {m : ℕ} → AtMost (exclusion_count mem (prohibition_start i)) 4 m
      → take (5776 + 11 * i + 3 + n + m - (5776 + 11 * i + 3 + n)) (drop (5776 + 11 * i + 3 + n) mem) ≡ (prohibition_at mem i).exclusion
  exclusion_lent {m} more =
      let w : 5776 + 11 * i + 3 + n + m - (5776 + 11 * i + 3 + n) ≡ m = omega arith in
      rw w (part_told mem (5776 + 11 * i + 3 + n) m (omega (arith, t.size, t.few_prohibitions)) ∙ rw (few.is, more.is) refl)

-- The ids that a prohibition lists, as its two lists.
module _ (mem : List ℕ) (i k : ℕ) where
  -- the first are its inclusions
  pub inclusion_listed : k < inclusion_count mem (prohibition_start i) → word mem (prohibition_start i + 3 + k) ≡ get_or (prohibition_at mem i).inclusion k 0
  inclusion_listed h = sym (get_d_tabulate (inclusion_count mem (prohibition_start i)) (λ j. word mem (prohibition_start i + 3 + j)) k 0 h)

  -- the next are its exclusions
  pub exclusion_listed : k < exclusion_count mem (prohibition_start i)
      → word mem (prohibition_start i + 3 + inclusion_count mem (prohibition_start i) + k) ≡ get_or (prohibition_at mem i).exclusion k 0
  exclusion_listed h =
      sym (get_d_tabulate (exclusion_count mem (prohibition_start i)) (λ j. word mem (prohibition_start i + 3 + inclusion_count mem (prohibition_start i) + j)) k 0 h)

-- how many there are of each
module _ (mem : List ℕ) (i : ℕ) where
  pub inclusions_long : length (prohibition_at mem i).inclusion ≡ inclusion_count mem (prohibition_start i)
  inclusions_long = length_tabulate (inclusion_count mem (prohibition_start i)) (λ j. word mem (prohibition_start i + 3 + j))

  pub exclusions_long : length (prohibition_at mem i).exclusion ≡ exclusion_count mem (prohibition_start i)
  exclusions_long = length_tabulate (exclusion_count mem (prohibition_start i)) (λ j. word mem (prohibition_start i + 3 + inclusion_count mem (prohibition_start i) + j))
