-- What does not change: a group whose words stay is the same group, and a table whose words stay in order is a table.
-- Assumes nothing.
use mathlib.Core.Path.{◌≡◌, refl, ap, ◌∙◌}
use mathlib.Core.List.{List}
use mathlib.Core.Logic.{◌⊎◌, inl, inr, ⊎_elim}
use Prim.Native.Nat.{ℕ, suc, ◌+◌, ◌*◌, ◌/◌, ◌%◌, ◌≤◌, ◌<◌}
use native.Mathlib.Omega.{arith}
use lib.ListN.{length}
use Rattle.model.specs.Lists.{those, tabulate}
use Rattle.model.specs.Policy.{is_kind, is_element_id}
use Rattle.group.proofs.Records.{tabulate_alike}
use Rattle.table.specs.Layout.{word, assignment_count, prohibition_count, assignment_word, prohibition_start}
use Rattle.table.specs.View.{inclusion_count, exclusion_count, elements_of, processes_of, assignments_of, associations_of, prohibitions_of, assignment_at, association_at, prohibition_at}
use Rattle.table.specs.Facts.{ShortLists, Table}

-- the words from one place up to another are the same
pub record Same (mem mem' : List ℕ) (from to : ℕ) : Type 0 where
  pub at : (i : ℕ) → from ≤ i → i < to → word mem' i ≡ word mem i

module _ {mem mem' : List ℕ} where
  -- the same words, the same elements
  elements_same : Same mem mem' 8 520 → elements_of mem' ≡ elements_of mem
  unfolding elements_of
  elements_same s =
      ap (those (λ e. is_kind e.kind)) (tabulate_alike 511 (λ i. record { id = suc i; kind = word mem' (8 + suc i) }) (λ i. record { id = suc i; kind = word mem (8 + suc i) })
      (λ i l. ap (λ k. record { id = suc i; kind = k }) (s.at (8 + suc i) (omega arith) (omega arith))))

  -- the same words, the same processes
  processes_same : Same mem mem' 520 776 → processes_of mem' ≡ processes_of mem
  unfolding processes_of
  processes_same s =
      ap (those (λ q. is_element_id q.owner)) (tabulate_alike 255 (λ i. record { id = suc i; owner = word mem' (520 + suc i) }) (λ i. record { id = suc i; owner = word mem (520 + suc i) })
      (λ i l. ap (λ k. record { id = suc i; owner = k }) (s.at (520 + suc i) (omega arith) (omega arith))))

  -- the same words, the same assignments
  assignments_same : word mem' 1 ≡ word mem 1 → word mem 1 ≤ 2000 → Same mem mem' 776 2776 → assignments_of mem' ≡ assignments_of mem
  unfolding assignments_of
  assignments_same c h s =
      ap (λ n. tabulate n (assignment_at mem')) c
      ∙ tabulate_alike (word mem 1) (assignment_at mem') (assignment_at mem) (λ i l. ap (λ w. record { child = w / 512; container = w % 512 }) (s.at (776 + i) (omega arith) (omega arith)))

  -- the same words, the same associations
  associations_same : word mem' 2 ≡ word mem 2 → word mem 2 ≤ 1000 → Same mem mem' 2776 4776 → associations_of mem' ≡ associations_of mem
  unfolding associations_of
  associations_same c h s =
      ap (λ n. tabulate n (association_at mem')) c
      ∙ tabulate_alike (word mem 2) (association_at mem') (association_at mem) (λ i l. rw (s.at (2776 + 2 * i) (omega arith) (omega arith), s.at (2776 + 2 * i + 1) (omega arith) (omega arith)) refl)

-- The prohibitions: the lists are short, so the words of each are its eleven.
module _ {mem mem' : List ℕ} (t : Table mem) (c : word mem' 3 ≡ word mem 3) (s : Same mem mem' 5776 7976) where
  -- a word of prohibition i
  listed_same : (i k : ℕ) → i < word mem 3 → k < 11 → word mem' (prohibition_start i + k) ≡ word mem (prohibition_start i + k)
  listed_same i k h l = s.at (prohibition_start i + k) (omega arith) (omega (arith, t.few_prohibitions))

  first_same : (i : ℕ) → i < word mem 3 → word mem' (prohibition_start i) ≡ word mem (prohibition_start i)
  first_same i h = s.at (prohibition_start i) (omega arith) (omega (arith, t.few_prohibitions))

  prohibition_same : (i : ℕ) → i < word mem 3 → prohibition_at mem' i ≡ prohibition_at mem i
  prohibition_same i h =
      let a = first_same i h in
      let b = listed_same i 1 h (omega arith) in
      let d = listed_same i 2 h (omega arith) in
      let y = t.short i h in
      let n = inclusion_count mem (prohibition_start i) in
      let m = exclusion_count mem (prohibition_start i) in
      let p : tabulate n (λ k. word mem' (prohibition_start i + 3 + k)) ≡ tabulate n (λ k. word mem (prohibition_start i + 3 + k)) =
      tabulate_alike n (λ k. word mem' (prohibition_start i + 3 + k)) (λ k. word mem (prohibition_start i + 3 + k))
      (λ k l. s.at (prohibition_start i + 3 + k) (omega arith) (omega (arith, t.few_prohibitions, y.few_inclusions))) in
      let q : tabulate m (λ k. word mem' (prohibition_start i + 3 + n + k)) ≡ tabulate m (λ k. word mem (prohibition_start i + 3 + n + k)) =
      tabulate_alike m (λ k. word mem' (prohibition_start i + 3 + n + k)) (λ k. word mem (prohibition_start i + 3 + n + k))
      (λ k l. s.at (prohibition_start i + 3 + n + k) (omega arith) (omega (arith, t.few_prohibitions, y.few_inclusions, y.few_exclusions))) in
      rw (a, b, d, p, q) refl

  -- the same words, the same prohibitions
  prohibitions_same : prohibitions_of mem' ≡ prohibitions_of mem
  unfolding prohibitions_of
  prohibitions_same = ap (λ n. tabulate n (prohibition_at mem')) c ∙ tabulate_alike (word mem 3) (prohibition_at mem') (prohibition_at mem) prohibition_same

  -- and their lists are as short
  short_same : (i : ℕ) → i < prohibition_count mem' → ShortLists mem' (prohibition_start i)
  short_same i h =
      let l : i < word mem 3 = omega (arith, c) in
      let y = t.short i l in
      let d = listed_same i 2 l (omega arith) in
      record {
        few_inclusions = omega (arith, ap (λ w. w / 8) d, y.few_inclusions);
        few_exclusions = omega (arith, ap (λ w. w % 8) d, y.few_exclusions);
      }

-- The assignments are in order where their words stay.
module _ {mem mem' : List ℕ} (t : Table mem) (c : word mem' 1 ≡ word mem 1) (s : Same mem mem' 776 2776) where
  assignment_same : (i : ℕ) → i < word mem 1 → assignment_word mem' i ≡ assignment_word mem i
  assignment_same i h = s.at (776 + i) (omega arith) (omega (arith, t.few_assignments))

  rising_same : (i j : ℕ) → i < j → j < assignment_count mem' → assignment_word mem' i < assignment_word mem' j
  rising_same i j h l =
      let a = assignment_same i (omega (arith, c)) in
      let b = assignment_same j (omega (arith, c)) in
      let d = t.rising i j h (omega (arith, c)) in
      omega (arith, a, b, d)

  small_same : (i : ℕ) → i < assignment_count mem' → assignment_word mem' i < 262144
  small_same i h = let a = assignment_same i (omega (arith, c)) in let d = t.small i (omega (arith, c)) in omega (arith, a, d)

-- One part of the memory changed: every word is as it was but one, the counter, and those from one place up to another.
pub record Else (mem mem' : List ℕ) (counter from to : ℕ) : Type 0 where
  pub long : length mem' ≡ length mem
  pub at : (i : ℕ) → (i ≡ counter → ⊥) → (i < from) ⊎ (to ≤ i) → word mem' i ≡ word mem i

module _ {mem mem' : List ℕ} {counter from to : ℕ} (t : Table mem) (e : Else mem mem' counter from to) (low : counter < 8) (high : 8 ≤ from) where
  -- a part that lies elsewhere
  part : (a b : ℕ) → 8 ≤ a → (b ≤ from) ⊎ (to ≤ a) → Same mem mem' a b
  part a b l h = record { at = λ i p q. e.at i (λ z. omega arith) (⊎_elim (λ k. inl (omega arith)) (λ k. inr (omega arith)) h) }

  -- the mark and the other counts
  pub head_stays : (i : ℕ) → i < 8 → (i ≡ counter → ⊥) → word mem' i ≡ word mem i
  head_stays i l d = e.at i d (inl (omega arith))

  -- the elements, where the change lies behind them
  pub elements_stay : 520 ≤ from → elements_of mem' ≡ elements_of mem
  elements_stay l = elements_same (part 8 520 (omega arith) (inl l))

  -- the processes
  pub processes_stay : (776 ≤ from) ⊎ (to ≤ 520) → processes_of mem' ≡ processes_of mem
  processes_stay l = processes_same (part 520 776 (omega arith) l)

  -- the assignments, and their order
  module _ (d : 1 ≡ counter → ⊥) (l : (2776 ≤ from) ⊎ (to ≤ 776)) where
    pub assignments_stay : assignments_of mem' ≡ assignments_of mem
    assignments_stay = assignments_same (head_stays 1 (omega arith) d) t.few_assignments (part 776 2776 (omega arith) l)

    pub rising_stays : (i j : ℕ) → i < j → j < assignment_count mem' → assignment_word mem' i < assignment_word mem' j
    rising_stays = rising_same t (head_stays 1 (omega arith) d) (part 776 2776 (omega arith) l)

    pub small_stays : (i : ℕ) → i < assignment_count mem' → assignment_word mem' i < 262144
    small_stays = small_same t (head_stays 1 (omega arith) d) (part 776 2776 (omega arith) l)

  -- the associations
  pub associations_stay : (2 ≡ counter → ⊥) → (4776 ≤ from) ⊎ (to ≤ 2776) → associations_of mem' ≡ associations_of mem
  associations_stay d l = associations_same (head_stays 2 (omega arith) d) t.few_associations (part 2776 4776 (omega arith) l)

  -- the prohibitions, and that their lists are short
  module _ (d : 3 ≡ counter → ⊥) (l : (7976 ≤ from) ⊎ (to ≤ 5776)) where
    pub prohibitions_stay : prohibitions_of mem' ≡ prohibitions_of mem
    prohibitions_stay = prohibitions_same t (head_stays 3 (omega arith) d) (part 5776 7976 (omega arith) l)

    pub short_stays : (i : ℕ) → i < prohibition_count mem' → ShortLists mem' (prohibition_start i)
    short_stays = short_same t (head_stays 3 (omega arith) d) (part 5776 7976 (omega arith) l)
