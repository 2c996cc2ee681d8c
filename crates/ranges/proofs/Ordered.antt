-- The prohibitions of a table in their order: one and the next by those of its words that count, and all of them.
-- Assumes nothing.
use mathlib.Core.Path.{◌≡◌, refl, sym, ap, ap₂, ◌∙◌}
use mathlib.Core.Bool.{Bool, true, false, ◌&&◌}
use mathlib.Core.List.{List, map}
use Prim.Native.Nat.{ℕ, zero, suc, ◌+◌, ◌*◌, ◌-◌, ◌/◌, ◌%◌, ◌≤◌, ◌<◌}
use native.Mathlib.Omega.{arith}
use lib.ListN.{take, drop}
use lib.Seq.{take-take, drop-drop, get_or-take, get_or-drop}
use Rattle.model.specs.Lists.{In, all_of, before, precedes, rising, tabulate}
use Rattle.model.specs.Policy.{Prohibition, prohibition_fields}
use Rattle.model.proofs.Truth.{all_in}
use Rattle.table.specs.Layout.{word, prohibition_count, prohibition_start}
use Rattle.table.specs.View.{inclusion_count, exclusion_count, policy_of}
use Rattle.table.specs.Facts.{Table, AtMost}
use Rattle.table.proofs.Tabled.{in_tabulate, rising_tabulate}
use Rattle.group.specs.Group.{group}
use Rattle.group.proofs.Records.{records_at, tabulate_alike}
use Rattle.group.proofs.Kept.{wide_group}
use Rattle.store.proofs.Mapped.{map_tabulate}
use Rattle.store.proofs.Recorded.{prohibition_in, fronts_order}
use Rattle.store.proofs.Prohibited.{prohibitions_group, prohibitions_fit, group_short}
use Rattle.ranges.specs.Rising.{before_next}

-- a list that is told off rises exactly if each is before the next
rising_each : {A : Type 0} (key : A → List ℕ) (m : ℕ) (f : ℕ → A) → rising key (tabulate (suc m) f) ≡ all_of (λ (b : Bool). b) (tabulate m (λ i. before (key (f i)) (key (f (suc i)))))
unfolding all_of tabulate rising precedes
rising_each key zero f = refl
rising_each key (suc m) f = ap (λ (b : Bool). before (key (f 0)) (key (f 1)) && b) (rising_each key m (λ i. f (suc i)))

-- record i, of eleven words
abbrev record_at : List ℕ → (i : ℕ) → List ℕ
record_at mem i = take 11 (drop (11 * i) (drop 5776 mem))

-- the prohibition that it is
abbrev recorded_at : List ℕ → (i : ℕ) → Prohibition
recorded_at mem i = prohibition_in (record_at mem i)

-- prohibition i is before the next
unfoldable pub in_order : List ℕ → (i : ℕ) → Bool
in_order mem i = before (prohibition_fields (recorded_at mem i)) (prohibition_fields (recorded_at mem (suc i)))

-- the first words of a record are those from its place on
record_front : (mem : List ℕ) (i key at : ℕ) → key ≤ 11 → at ≡ 5776 + 11 * i → take key (record_at mem i) ≡ take key (drop at mem)
record_front mem i key at h e = take-take key 11 (drop (11 * i) (drop 5776 mem)) h ∙ ap (take key) (drop-drop (11 * i) 5776 mem) ∙ ap (λ (k : ℕ). take key (drop k mem)) (sym e)

-- a record's counts are the prohibition's
record_counts : (mem : List ℕ) (i : ℕ) → word (record_at mem i) 2 ≡ word mem (prohibition_start i + 2)
record_counts mem i =
    get_or-take 11 (drop (11 * i) (drop 5776 mem)) 2 0 (omega arith) ∙ get_or-drop (11 * i) (drop 5776 mem) 2 0 ∙ get_or-drop 5776 mem (11 * i + 2) 0 ∙ ap (word mem) (omega arith)

module _ {mem : List ℕ} (t : Table mem) where
  -- the prohibitions are the records
  recorded : (policy_of mem).prohibitions ≡ tabulate (prohibition_count mem) (recorded_at mem)
  unfolding policy_of group
  recorded = prohibitions_group t ∙ ap (λ g. map prohibition_in g) (records_at 11 (word mem 3) (drop 5776 mem)) ∙ map_tabulate prohibition_in (word mem 3) (record_at mem)

  -- each record is in the group
  record_in : (i : ℕ) → i < prohibition_count mem → In (record_at mem i) (group 5776 11 3 mem)
  unfolding group
  record_in i h = rw (records_at 11 (word mem 3) (drop 5776 mem)) (in_tabulate (word mem 3) (record_at mem) i h)

  -- one prohibition is before the next by those of its words that count
  next_in_order : (i : ℕ) → suc i < prohibition_count mem → {key : ℕ} → AtMost (3 + (inclusion_count mem (prohibition_start i) + exclusion_count mem (prohibition_start i))) 11 key
      → before_next mem (5776 + 11 * i) 11 key ≡ in_order mem i
  unfolding before_next in_order
  next_in_order i h {key} k =
      let r : List ℕ = record_at mem i in
      let s : List ℕ = record_at mem (suc i) in
      let a : In r (group 5776 11 3 mem) = record_in i (omega arith) in
      let b : In s (group 5776 11 3 mem) = record_in (suc i) h in
      let w = wide_group (prohibitions_fit t) in
      let e : key ≡ 3 + (inclusion_count r 0 + exclusion_count r 0) =
      omega (arith, k.is, ap (λ v. v / 8) (record_counts mem i), ap (λ v. v % 8) (record_counts mem i)) in
      sym (ap₂ before (record_front mem i key (5776 + 11 * i) k.few refl) (record_front mem (suc i) key (5776 + 11 * i + 11) k.few (omega arith)))
      ∙ ap (λ (m : ℕ). before (take m r) (take m s)) e
      ∙ fronts_order r s (w.each r a) (w.each s b) (group_short t r a) (group_short t s b)

-- the first i prohibitions rise
pub record RiseTo (mem : List ℕ) (i : ℕ) : Type 0 where
  pub some : 1 ≤ i
  pub each : (k : ℕ) → suc k < i → in_order mem k ≡ true

-- where all have been looked at and found in order, they rise
pub prohibitions_rise : {mem : List ℕ} → Table mem → {n : ℕ} → n ≡ prohibition_count mem → {i : ℕ} → RiseTo mem i → n ≤ i
    → true ≡ rising prohibition_fields (policy_of mem).prohibitions
unfolding in_order
prohibitions_rise {mem} t {n} count {i} s h = sym (ap (rising prohibition_fields) (recorded t)
    ∙ rising_tabulate prohibition_fields (prohibition_count mem) (recorded_at mem) (λ k l. s.each k (omega arith)))

-- prohibition i is before the next, by the words of it that count
unfoldable pub is_next : List ℕ → (i : ℕ) → Bool
is_next mem i = before_next mem (5776 + 11 * i) 11 (3 + (inclusion_count mem (prohibition_start i) + exclusion_count mem (prohibition_start i)))

module _ {mem : List ℕ} (t : Table mem) where
  -- so it is before the next by its fields
  next_told : (i : ℕ) → suc i < prohibition_count mem → is_next mem i ≡ before (prohibition_fields (recorded_at mem i)) (prohibition_fields (recorded_at mem (suc i)))
  unfolding is_next in_order
  next_told i h = let s = t.short i (omega arith) in next_in_order t i h (record { is = refl; few = omega (arith, s.few_inclusions, s.few_exclusions) })

  all_told : (n : ℕ) → n ≡ prohibition_count mem → all_of (λ (b : Bool). b) (tabulate (n - 1) (λ j. is_next mem (1 + j - 1))) ≡ rising prohibition_fields (tabulate n (recorded_at mem))
  unfolding all_of tabulate rising
  all_told zero count = refl
  all_told (suc m) count =
      let e : suc m - 1 ≡ m = omega arith in
      let f : ℕ → Bool = λ j. before (prohibition_fields (recorded_at mem j)) (prohibition_fields (recorded_at mem (suc j))) in
      rw e (ap (all_of (λ (b : Bool). b)) (tabulate_alike m (λ j. is_next mem (1 + j - 1)) f (λ j l. let s : 1 + j - 1 ≡ j = omega arith in ap (is_next mem) s ∙ next_told j (omega arith)))
      ∙ sym (rising_each prohibition_fields m (recorded_at mem)))

  -- where each is before the next, each of them is in order
  each_told : {n : ℕ} → n ≡ prohibition_count mem → true ≡ all_of (λ (b : Bool). b) (tabulate (n - 1) (λ j. is_next mem (1 + j - 1))) → (k : ℕ) → suc k < n → in_order mem k ≡ true
  unfolding in_order
  each_told {n = n} count is k h =
      let e : k ≡ 1 + k - 1 = omega arith in
      sym (next_told k (omega arith)) ∙ ap (is_next mem) e
      ∙ all_in (λ (b : Bool). b) (sym is) (in_tabulate (n - 1) (λ j. is_next mem (1 + j - 1)) k (omega arith))

  -- so the first of them rise, as many as there are
  told_rise : {n : ℕ} → n ≡ prohibition_count mem → true ≡ all_of (λ (b : Bool). b) (tabulate (n - 1) (λ j. is_next mem (1 + j - 1))) → true ≡ rising prohibition_fields (policy_of mem).prohibitions
  told_rise {n = zero} count is = prohibitions_rise t count {i = 1} (record { some = omega arith; each = λ (k : ℕ) (h : suc k < 1). let never : suc k < 0 = omega (arith, h) in each_told count is k never }) (omega arith)
  told_rise {n = suc m} count is = prohibitions_rise t count (record { some = omega arith; each = each_told count is }) (omega arith)

  -- the prohibitions rise exactly if each is before the next
  pub prohibitions_rise_if : {n : ℕ} → n ≡ prohibition_count mem → {r : Bool}
      → r ≡ all_of (λ (b : Bool). b) (tabulate (n - 1) (λ j. is_next mem (1 + j - 1))) → r ≡ rising prohibition_fields (policy_of mem).prohibitions
  prohibitions_rise_if count {r = true} is = told_rise count is
  prohibitions_rise_if {n = n} count {r = false} is =
      is ∙ all_told n count ∙ ap (λ (k : ℕ). rising prohibition_fields (tabulate k (recorded_at mem))) count ∙ ap (rising prohibition_fields) (sym (recorded t))
