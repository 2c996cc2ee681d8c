-- The prohibitions as a group of records of eleven words, and the policy after one is put in or taken out.
-- Assumes nothing.
use mathlib.Core.Path.{◌≡◌, refl, sym, ap, ◌∙◌}
use mathlib.Core.Bool.{false}
use mathlib.Core.List.{List, [], map}
use mathlib.Core.Logic.{inl, ⊎_elim}
use Prim.Native.Nat.{ℕ, ◌+◌, ◌*◌, ◌/◌, ◌%◌, ◌≤◌, ◌<◌}
use native.Mathlib.Omega.{arith}
use lib.ListN.{length, take, drop, get_or}
use lib.Seq.{get_or-take, get_or-drop}
use Rattle.model.specs.Lists.{In, before, same, put, less_first, tabulate}
use Rattle.model.specs.Policy.{Prohibition, prohibition_fields, has_prohibition, with_prohibitions}
use Rattle.model.proofs.Truth.{any_none, in_map, less_in}
use Rattle.model.proofs.Groups.{put_in}
use Rattle.table.specs.Layout.{word, prohibition_count, prohibition_start}
use Rattle.table.specs.View.{inclusion_count, exclusion_count, prohibition_at, prohibitions_of, policy_of}
use Rattle.table.specs.Facts.{ShortLists, Table}
use Rattle.table.proofs.Tabled.{tabulate_in}
use Rattle.group.specs.Group.{group, regroup, begins, Fits, Wide, Clear}
use Rattle.group.proofs.Wide.{wide_put, wide_less}
use Rattle.group.proofs.Records.{records_at, record_at_lem}
use Rattle.group.proofs.Regrouped.{count_regrouped, group_regrouped, zero_beyond}
use Rattle.group.proofs.Kept.{wide_group, put_few, less_few}
use Rattle.store.specs.ProhibitionWords.{Storable, prohibition_front, prohibition_record, with_prohibition, without_prohibition}
use Rattle.store.proofs.Frames.{Else, head_stays, elements_stay, processes_stay, assignments_stay, rising_stays, small_stays, associations_stay}
use Rattle.group.proofs.Records.{tabulate_alike}
use Rattle.store.proofs.Regroups.{regroup_leaves, in_get_d}
use Rattle.store.proofs.Mapped.{map_tabulate, map_put, map_less}
use Rattle.store.proofs.Recorded.{prohibition_from, prohibition_in, storable_narrow, length_record, record_is, record_short, record_order, front_same}

-- the eleven words from one place on are those from another
record Alike (mem : List ℕ) (start : ℕ) (mem' : List ℕ) (start' : ℕ) : Type 0 where
  at : (k : ℕ) → k < 11 → word mem' (start' + k) ≡ word mem (start + k)

module _ {mem mem' : List ℕ} {start start' : ℕ} (y : ShortLists mem start) (a : Alike mem start mem' start') where
  -- the first word is the same
  first_alike : word mem' start' ≡ word mem start
  first_alike = let e : start' ≡ start' + 0 = omega arith in let f : start + 0 ≡ start = omega arith in ap (word mem') e ∙ a.at 0 (omega arith) ∙ ap (word mem) f

  -- so are the words that list ids
  listed_alike : (i j k : ℕ) → i ≡ start' + 3 + k → j ≡ start + 3 + k → k < 8 → word mem' i ≡ word mem j
  listed_alike i j k e f h =
      let p : i ≡ start' + (3 + k) = omega arith in
      let q : start + (3 + k) ≡ j = omega arith in
      ap (word mem') p ∙ a.at (3 + k) (omega arith) ∙ ap (word mem) q

  -- the same words are the same prohibition
  from_alike : prohibition_from mem' start' ≡ prohibition_from mem start
  from_alike =
      let n : ℕ = inclusion_count mem start in
      let m : ℕ = exclusion_count mem start in
      let p : tabulate n (λ k. word mem' (start' + 3 + k)) ≡ tabulate n (λ k. word mem (start + 3 + k)) =
      tabulate_alike n (λ k. word mem' (start' + 3 + k)) (λ k. word mem (start + 3 + k))
      (λ k h. listed_alike (start' + 3 + k) (start + 3 + k) k refl refl (omega (arith, y.few_inclusions))) in
      let q : tabulate m (λ k. word mem' (start' + 3 + n + k)) ≡ tabulate m (λ k. word mem (start + 3 + n + k)) =
      tabulate_alike m (λ k. word mem' (start' + 3 + n + k)) (λ k. word mem (start + 3 + n + k))
      (λ k h. listed_alike (start' + 3 + n + k) (start + 3 + n + k) (n + k) (omega arith) (omega arith) (omega (arith, y.few_inclusions, y.few_exclusions))) in
      rw (first_alike, a.at 1 (omega arith), a.at 2 (omega arith), p, q) refl

  -- and its lists are as short
  short_alike : ShortLists mem' start'
  short_alike =
      let c = a.at 2 (omega arith) in
      record {
        few_inclusions = omega (arith, ap (λ w. w / 8) c, y.few_inclusions);
        few_exclusions = omega (arith, ap (λ w. w % 8) c, y.few_exclusions);
      }

-- record i, of eleven words
abbrev record_at : List ℕ → (i : ℕ) → List ℕ
record_at mem i = take 11 (drop (11 * i) (drop 5776 mem))

-- its words are those of prohibition i
record_word : (mem : List ℕ) (i k : ℕ) → k < 11 → get_or (record_at mem i) k 0 ≡ word mem (prohibition_start i + k)
record_word mem i k h =
    get_or-take 11 (drop (11 * i) (drop 5776 mem)) k 0 h ∙ get_or-drop (11 * i) (drop 5776 mem) k 0 ∙ get_or-drop 5776 mem (11 * i + k) 0 ∙ ap (word mem) (omega arith)

-- so the record's words are the prohibition's
record_alike : (mem : List ℕ) (i : ℕ) → Alike mem (prohibition_start i) (record_at mem i) 0
record_alike mem i = record { at = λ k h. ap (word (record_at mem i)) (omega arith) ∙ record_word mem i k h }

-- and the other way
alike_record : (mem : List ℕ) (i : ℕ) → Alike (record_at mem i) 0 mem (prohibition_start i)
alike_record mem i = record { at = λ k h. sym ((record_alike mem i).at k h) }

-- the prohibitions are the group's records
pub prohibitions_group : {mem : List ℕ} → Table mem → prohibitions_of mem ≡ map prohibition_in (group 5776 11 3 mem)
unfolding prohibitions_of group
prohibitions_group {mem} t =
    sym (ap (map prohibition_in) (records_at 11 (word mem 3) (drop 5776 mem))
    ∙ map_tabulate prohibition_in (word mem 3) (record_at mem)
    ∙ tabulate_alike (word mem 3) (λ i. prohibition_in (record_at mem i)) (prohibition_at mem) (λ i h. from_alike (t.short i h) (record_alike mem i)))

-- the lists of each of which are short
pub group_short : {mem : List ℕ} → Table mem → (r : List ℕ) → In r (group 5776 11 3 mem) → ShortLists r 0
unfolding group
group_short {mem} t r i =
    let w = tabulate_in (word mem 3) (record_at mem) (rw (records_at 11 (word mem 3) (drop 5776 mem)) at i) in
    rw (← w.is) (short_alike (t.short w.at w.early) (record_alike mem w.at))

-- room for the prohibitions
pub prohibitions_fit : {mem : List ℕ} → Table mem → Fits 5776 11 3 200 mem
prohibitions_fit t = record { some = omega arith; apart = omega arith; room = omega (arith, t.size); few = t.few_prohibitions; short = omega (arith, t.size) }

-- Other prohibitions in their place: few, each of eleven words, with short lists.
module _ {mem : List ℕ} (t : Table mem) {g : List (List ℕ)} (w : Wide 11 g) (few : length g ≤ 200) (short : (r : List ℕ) → In r g → ShortLists r 0) where
  -- the words after
  after : List ℕ
  after = regroup 5776 11 3 g mem

  -- everything else stays
  leaves : Else mem after 3 5776 7976
  unfolding after
  leaves = regroup_leaves (prohibitions_fit t) w few

  -- so do the mark and the other counts
  header : (i : ℕ) → i < 8 → (i ≡ 3 → ⊥) → word after i ≡ word mem i
  header = head_stays t leaves (omega arith) (omega arith)

  -- the group after
  group_after : group 5776 11 3 after ≡ g
  unfolding after
  group_after = group_regrouped (prohibitions_fit t) w few

  -- how many there are after
  count_after : word after 3 ≡ length g
  unfolding after
  count_after = count_regrouped (prohibitions_fit t) w few

  -- record i after
  record_after : (i : ℕ) → i < length g → record_at after i ≡ get_or g i []
  unfolding group
  record_after i h = sym (record_at_lem 11 (word after 3) (drop 5776 after) i [] (omega (arith, count_after))) ∙ ap (λ (l : List (List ℕ)). get_or l i []) group_after

  -- the lists of prohibition i after are short
  short_after : (i : ℕ) → i < length g → ShortLists after (prohibition_start i)
  short_after i h = short_alike (rw (record_after i h) (short (get_or g i []) (in_get_d g i [] h))) (alike_record after i)

  -- the memory is a table
  pub prohibitions_table : Table (regroup 5776 11 3 g mem)
  unfolding after
  prohibitions_table = record {
    size = leaves.long ∙ t.size;
    marked = header 0 (omega arith) (λ e. omega arith) ∙ t.marked;
    few_assignments = omega (arith, header 1 (omega arith) (λ e. omega arith), t.few_assignments);
    few_associations = omega (arith, header 2 (omega arith) (λ e. omega arith), t.few_associations);
    few_prohibitions = omega (arith, count_after);
    rising = rising_stays t leaves (omega arith) (omega arith) (λ e. omega arith) (inl (omega arith));
    small = small_stays t leaves (omega arith) (omega arith) (λ e. omega arith) (inl (omega arith));
    short = λ i h. short_after i (omega (arith, count_after));
  }

  -- the policy with those prohibitions
  pub prohibitions_regrouped : policy_of (regroup 5776 11 3 g mem) ≡ with_prohibitions (policy_of mem) (map prohibition_in g)
  unfolding policy_of after
  prohibitions_regrouped =
      let b : prohibitions_of after ≡ map prohibition_in g = prohibitions_group prohibitions_table ∙ ap (map prohibition_in) group_after in
      rw (
        elements_stay t leaves (omega arith) (omega arith) (omega arith),
        processes_stay t leaves (omega arith) (omega arith) (inl (omega arith)),
        assignments_stay t leaves (omega arith) (omega arith) (λ e. omega arith) (inl (omega arith)),
        associations_stay t leaves (omega arith) (omega arith) (λ e. omega arith) (inl (omega arith)),
        b,
      ) refl

  -- where each word behind the last prohibition was 0 it is so again
  pub prohibitions_clear : Clear 5776 11 3 200 mem → Clear 5776 11 3 200 (regroup 5776 11 3 g mem)
  prohibitions_clear = zero_beyond (prohibitions_fit t) w few

-- One prohibition more, or one less.
module _ {mem : List ℕ} (t : Table mem) {b : Prohibition} (s : Storable b) where
  -- the group with the record in its place
  more : List (List ℕ)
  more = put (λ r. r) (prohibition_record b) (group 5776 11 3 mem)

  -- the words with it
  more_is : with_prohibition b mem ≡ regroup 5776 11 3 more mem
  unfolding with_prohibition more
  more_is = ap (λ (n : ℕ). regroup 5776 n 3 (put (λ r. r) (prohibition_record b) (group 5776 n 3 mem)) mem) (length_record (storable_narrow s))

  -- each record has eleven words
  more_wide : Wide 11 more
  unfolding more
  more_wide = wide_put (wide_group (prohibitions_fit t)) (prohibition_record b) (λ r. r) (length_record (storable_narrow s))

  -- there are at most 200
  more_few : prohibition_count mem < 200 → length more ≤ 200
  unfolding more
  more_few h = put_few (λ r. r) (prohibition_record b) (prohibitions_fit t) h

  -- the lists of each are short
  more_short : (r : List ℕ) → In r more → ShortLists r 0
  unfolding more
  more_short r i =
      ⊎_elim (λ e. rw e (record_short (storable_narrow s))) (group_short t r) (put_in (λ (x : List ℕ). x) (prohibition_record b) (group 5776 11 3 mem) i)

  -- a table with one prohibition more is a table
  pub prohibition_put_table : prohibition_count mem < 200 → Table (with_prohibition b mem)
  prohibition_put_table h = rw more_is (prohibitions_table t more_wide (more_few h) more_short)

  -- where the prohibition is not there, no record is it
  none_same : has_prohibition (policy_of mem) b ≡ false → (r : List ℕ) → In r (group 5776 11 3 mem) → same (prohibition_fields b) (prohibition_fields (prohibition_in r)) ≡ false
  unfolding has_prohibition policy_of
  none_same d r i = any_none (λ c. same (prohibition_fields b) (prohibition_fields c)) (rw (prohibitions_group t) at d) (in_map prohibition_in i)

  -- its policy has the prohibition, which was not there, in its place
  pub prohibition_put : prohibition_count mem < 200 → has_prohibition (policy_of mem) b ≡ false
      → policy_of (with_prohibition b mem) ≡ with_prohibitions (policy_of mem) (put prohibition_fields b (policy_of mem).prohibitions)
  unfolding policy_of more
  prohibition_put h d =
      let n = storable_narrow s in
      ap policy_of more_is ∙ prohibitions_regrouped t more_wide (more_few h) more_short
      ∙ ap (with_prohibitions (policy_of mem))
      (map_put prohibition_in (λ r. r) prohibition_fields (prohibition_record b) (group 5776 11 3 mem)
      (λ r i. record_order n r ((wide_group (prohibitions_fit t)).each r i) (group_short t r i) (none_same d r i)
      ∙ ap (λ c. before (prohibition_fields c) (prohibition_fields (prohibition_in r))) (sym (record_is n)))
      ∙ ap (λ c. put prohibition_fields c (map prohibition_in (group 5776 11 3 mem))) (record_is n)
      ∙ ap (put prohibition_fields b) (sym (prohibitions_group t)))

  -- each word behind the last prohibition is 0 as before
  pub prohibition_put_clear : prohibition_count mem < 200 → Clear 5776 11 3 200 mem → Clear 5776 11 3 200 (with_prohibition b mem)
  prohibition_put_clear h c = rw more_is (prohibitions_clear t more_wide (more_few h) more_short c)

  -- the group less the first record that begins with the prohibition's words
  fewer : List (List ℕ)
  fewer = less_first (begins (prohibition_front b)) (group 5776 11 3 mem)

  -- the words with it
  fewer_is : without_prohibition b mem ≡ regroup 5776 11 3 fewer mem
  unfolding without_prohibition fewer
  fewer_is = refl

  -- each record has eleven words
  fewer_wide : Wide 11 fewer
  unfolding fewer
  fewer_wide = wide_less (wide_group (prohibitions_fit t)) (begins (prohibition_front b))

  -- there are at most 200
  fewer_few : length fewer ≤ 200
  unfolding fewer
  fewer_few = less_few (begins (prohibition_front b)) (prohibitions_fit t)

  -- the lists of each are short
  fewer_short : (r : List ℕ) → In r fewer → ShortLists r 0
  unfolding fewer
  fewer_short r i = group_short t r (less_in (begins (prohibition_front b)) (group 5776 11 3 mem) i)

  -- a table with one prohibition less is a table
  pub prohibition_less_table : Table (without_prohibition b mem)
  prohibition_less_table = rw fewer_is (prohibitions_table t fewer_wide fewer_few fewer_short)

  -- its policy lacks the first prohibition with just those fields
  pub prohibition_less : policy_of (without_prohibition b mem)
      ≡ with_prohibitions (policy_of mem) (less_first (λ c. same (prohibition_fields b) (prohibition_fields c)) (policy_of mem).prohibitions)
  unfolding policy_of fewer
  prohibition_less =
      ap policy_of fewer_is ∙ prohibitions_regrouped t fewer_wide fewer_few fewer_short
      ∙ ap (with_prohibitions (policy_of mem))
      (map_less prohibition_in (begins (prohibition_front b)) (λ c. same (prohibition_fields b) (prohibition_fields c)) (group 5776 11 3 mem)
      (λ r i. front_same (storable_narrow s) r ((wide_group (prohibitions_fit t)).each r i) (group_short t r i))
      ∙ ap (less_first (λ c. same (prohibition_fields b) (prohibition_fields c))) (sym (prohibitions_group t)))

  -- each word behind the last prohibition is 0 as before
  pub prohibition_less_clear : Clear 5776 11 3 200 mem → Clear 5776 11 3 200 (without_prohibition b mem)
  prohibition_less_clear c = rw fewer_is (prohibitions_clear t fewer_wide fewer_few fewer_short c)
