-- The assignments as a group of records of one word, and the policy after one is put in or some are taken out.
-- Assumes nothing.
use mathlib.Core.Path.{◌≡◌, refl, sym, ap, ◌∙◌}
use mathlib.Core.Bool.{Bool, true, false, not, ◌&&◌, and-true}
use mathlib.Core.List.{List, [], ◌∷◌, map}
use mathlib.Core.Logic.{inl, inr, ⊎_elim}
use Prim.Native.Nat.{ℕ, suc, ◌+◌, ◌*◌, ◌/◌, ◌%◌, ◌≤◌, ◌<◌}
use native.Mathlib.Omega.{arith}
use borrow.Author.Tests.{lt-ltb, ltb-true}
use lib.Dec.{eqb, ltb}
use lib.ListN.{length, take, drop, get_or}
use lib.Seq.{get_or-take, get_or-drop}
use Rattle.model.specs.Lists.{In, those, before, same, rising, put, less_first}
use Rattle.model.specs.Policy.{Assignment, assignment_fields, is_assigned, with_assignments}
use Rattle.model.proofs.Truth.{any_none, in_map, less_in, those_in}
use Rattle.model.proofs.Order.{before_one}
use Rattle.model.proofs.Groups.{put_in, rising_put, rising_less, rising_those, those_length}
use Rattle.table.specs.Layout.{word, assignment_word}
use Rattle.table.specs.View.{assignment_at, assignments_of, policy_of}
use Rattle.table.specs.Facts.{Table}
use Rattle.group.specs.Group.{group, regroup, begins, Fits, Wide, Clear}
use Rattle.group.proofs.Compare.{begins_all}
use Rattle.group.proofs.Records.{records_at, record_at_lem}
use Rattle.group.proofs.Regrouped.{count_regrouped, group_regrouped, zero_beyond}
use Rattle.group.proofs.Wide.{wide_put, wide_less}
use Rattle.group.proofs.Kept.{length_group, wide_group, put_few, less_few}
use Rattle.store.specs.Words.{assignment_record, with_assignment, without_assignment, without_assignments_of}
use Rattle.store.proofs.Frames.{Else, head_stays, elements_stay, processes_stay, associations_stay, prohibitions_stay, short_stays}
use Rattle.group.proofs.Records.{tabulate_alike}
use Rattle.store.proofs.Regroups.{regroup_leaves, in_get_d, in_at, rising_before, rising_get_d, one_word}
use Rattle.store.proofs.Mapped.{map_tabulate, map_put, map_less, map_those, fields_packed, same_packed}

-- the assignment that a record of one word is
abbrev pub assignment_in : List ℕ → Assignment
assignment_in r = record { child = get_or r 0 0 / 512; container = get_or r 0 0 % 512 }

-- the assignments are the group's records
pub assignments_group : (mem : List ℕ) → assignments_of mem ≡ map assignment_in (group 776 1 1 mem)
unfolding assignments_of group
assignments_group mem =
    sym (ap (map assignment_in) (records_at 1 (word mem 1) (drop 776 mem))
    ∙ map_tabulate assignment_in (word mem 1) (λ i. take 1 (drop (1 * i) (drop 776 mem)))
    ∙ tabulate_alike (word mem 1) (λ i. assignment_in (take 1 (drop (1 * i) (drop 776 mem)))) (assignment_at mem) each)
  where
    each : (i : ℕ) → i < word mem 1 → assignment_in (take 1 (drop (1 * i) (drop 776 mem))) ≡ assignment_at mem i
    each i h =
        let e : get_or (take 1 (drop (1 * i) (drop 776 mem))) 0 0 ≡ word mem (776 + i) =
        get_or-take 1 (drop (1 * i) (drop 776 mem)) 0 0 (omega arith) ∙ get_or-drop (1 * i) (drop 776 mem) 0 0 ∙ get_or-drop 776 mem (1 * i + 0) 0 ∙ ap (λ (k : ℕ). get_or mem k 0) (omega arith) in
        rw e refl

-- room for the assignments
pub assignments_fit : {mem : List ℕ} → Table mem → Fits 776 1 1 2000 mem
assignments_fit t = record { some = omega arith; apart = omega arith; room = omega (arith, t.size); few = t.few_assignments; short = omega (arith, t.size) }

-- word i of the group is assignment i
pub group_word : (mem : List ℕ) (i : ℕ) → i < word mem 1 → get_or (get_or (group 776 1 1 mem) i []) 0 0 ≡ assignment_word mem i
unfolding group
group_word mem i h =
    ap (λ r. get_or r 0 0) (record_at_lem 1 (word mem 1) (drop 776 mem) i [] h)
    ∙ get_or-take 1 (drop (1 * i) (drop 776 mem)) 0 0 (omega arith) ∙ get_or-drop (1 * i) (drop 776 mem) 0 0 ∙ get_or-drop 776 mem (1 * i + 0) 0 ∙ ap (λ (k : ℕ). get_or mem k 0) (omega arith)

-- a record of one word before another
before_word : (r s : List ℕ) → length r ≡ 1 → length s ≡ 1 → before r s ≡ ltb (get_or r 0 0) (get_or s 0 0)
before_word r s a b = rw (one_word r a, one_word s b) (before_one (get_or r 0 0) (get_or s 0 0))

-- the assignments of a table rise
pub group_rises : {mem : List ℕ} → Table mem → rising (λ r. r) (group 776 1 1 mem) ≡ true
group_rises {mem} t = rising_get_d (λ r. r) (group 776 1 1 mem) [] (λ i h. next i (omega (arith, length_group 776 1 1 mem)))
  where
    next : (i : ℕ) → suc i < word mem 1 → before (get_or (group 776 1 1 mem) i []) (get_or (group 776 1 1 mem) (suc i) []) ≡ true
    next i h =
        let w = wide_group (assignments_fit t) in
        let g = length_group 776 1 1 mem in
        let a : List ℕ = get_or (group 776 1 1 mem) i [] in
        let b : List ℕ = get_or (group 776 1 1 mem) (suc i) [] in
        before_word a b (w.each a (in_get_d (group 776 1 1 mem) i [] (omega (arith, g)))) (w.each b (in_get_d (group 776 1 1 mem) (suc i) [] (omega (arith, g))))
        ∙ lt-ltb (get_or a 0 0) (get_or b 0 0) (omega (arith, group_word mem i (omega arith), group_word mem (suc i) h, t.rising i (suc i) (omega arith) h))

-- each of them is below 262,144
group_small : {mem : List ℕ} → Table mem → (r : List ℕ) → In r (group 776 1 1 mem) → get_or r 0 0 < 262144
group_small {mem} t r i =
    let p = in_at [] i in
    let h : p.at < word mem 1 = omega (arith, p.early, length_group 776 1 1 mem) in
    omega (arith, ap (λ l. get_or l 0 0) p.is, group_word mem p.at h, t.small p.at h)

-- Other assignments in their place: few, each of one word that is small, and rising.
module _ {mem : List ℕ} (t : Table mem) {g : List (List ℕ)} (w : Wide 1 g) (few : length g ≤ 2000) where
  -- the words after
  after : List ℕ
  after = regroup 776 1 1 g mem

  -- everything else stays
  leaves : Else mem after 1 776 2776
  unfolding after
  leaves = regroup_leaves (assignments_fit t) w few

  header : (i : ℕ) → i < 8 → (i ≡ 1 → ⊥) → word after i ≡ word mem i
  header = head_stays t leaves (omega arith) (omega arith)

  -- the policy with those assignments
  pub assignments_regrouped : policy_of (regroup 776 1 1 g mem) ≡ with_assignments (policy_of mem) (map assignment_in g)
  unfolding policy_of after
  assignments_regrouped =
      let a : assignments_of after ≡ map assignment_in g = assignments_group after ∙ ap (map assignment_in) (group_regrouped (assignments_fit t) w few) in
      rw (
        elements_stay t leaves (omega arith) (omega arith) (omega arith),
        processes_stay t leaves (omega arith) (omega arith) (inl (omega arith)),
        associations_stay t leaves (omega arith) (omega arith) (λ e. omega arith) (inr (omega arith)),
        prohibitions_stay t leaves (omega arith) (omega arith) (λ e. omega arith) (inr (omega arith)),
        a,
      ) refl

  -- where each word behind the last assignment was 0 it is so again
  pub assignments_clear : Clear 776 1 1 2000 mem → Clear 776 1 1 2000 (regroup 776 1 1 g mem)
  assignments_clear = zero_beyond (assignments_fit t) w few

  -- the count and the words after
  count_after : word after 1 ≡ length g
  unfolding after
  count_after = count_regrouped (assignments_fit t) w few

  word_after : (i : ℕ) → i < length g → assignment_word after i ≡ get_or (get_or g i []) 0 0
  unfolding after
  word_after i h = sym (group_word after i (omega (arith, count_after))) ∙ ap (λ l. get_or (get_or l i []) 0 0) (group_regrouped (assignments_fit t) w few)

  module _ (up : rising (λ r. r) g ≡ true) (small : (r : List ℕ) → In r g → get_or r 0 0 < 262144) where
    -- the memory is a table
    pub assignments_table : Table (regroup 776 1 1 g mem)
    unfolding after
    assignments_table = record {
      size = leaves.long ∙ t.size;
      marked = header 0 (omega arith) (λ e. omega arith) ∙ t.marked;
      few_assignments = omega (arith, count_after);
      few_associations = omega (arith, header 2 (omega arith) (λ e. omega arith), t.few_associations);
      few_prohibitions = omega (arith, header 3 (omega arith) (λ e. omega arith), t.few_prohibitions);
      rising = λ i j h l. pairs i j h (omega (arith, count_after));
      small = λ i h. let l : i < length g = omega (arith, count_after) in omega (arith, word_after i l, small (get_or g i []) (in_get_d g i [] l));
      short = short_stays t leaves (omega arith) (omega arith) (λ e. omega arith) (inr (omega arith));
    }
      where
        pairs : (i j : ℕ) → i < j → j < length g → assignment_word after i < assignment_word after j
        pairs i j h l =
            let a : List ℕ = get_or g i [] in
            let b : List ℕ = get_or g j [] in
            let la : length a ≡ 1 = w.each a (in_get_d g i [] (omega arith)) in
            let lb : length b ≡ 1 = w.each b (in_get_d g j [] l) in
            let e : ltb (get_or a 0 0) (get_or b 0 0) ≡ true = sym (before_word a b la lb) ∙ rising_before (λ r. r) g [] i j up h l in
            omega (arith, ltb-true (get_or a 0 0) (get_or b 0 0) e, word_after i (omega arith), word_after j l)

-- the fields of a record are its word's
fields_of : (r : List ℕ) → length r ≡ 1 → r ≡ ((assignment_in r).child * 512 + (assignment_in r).container) ∷ []
fields_of r e = one_word r e ∙ ap (λ (w : ℕ). w ∷ []) (omega arith)

-- a record is read back
pub assignment_back : (x y : ℕ) → y < 512 → assignment_in (assignment_record x y) ≡ record { child = x; container = y }
assignment_back x y h =
    let c : (x * 512 + y) / 512 ≡ x = omega arith in
    let d : (x * 512 + y) % 512 ≡ y = omega arith in
    rw (c, d) refl

-- two fields that are the same
same_two : (a b x y : ℕ) → same (a ∷ b ∷ []) (x ∷ y ∷ []) ≡ (eqb a x && eqb b y)
unfolding same
same_two a b x y = ap (◌&&◌ (eqb a x)) (and-true (eqb b y))

-- A record of one word among the assignments' records.
module _ (x y : ℕ) (h : y < 512) (r : List ℕ) (e : length r ≡ 1) where
  -- it is in the order of the fields
  order_kept : before (assignment_record x y) r ≡ before (assignment_fields (record { child = x; container = y })) (assignment_fields (assignment_in r))
  order_kept =
      ap (before (assignment_record x y)) (fields_of r e)
      ∙ sym (fields_packed 512 x y (assignment_in r).child (assignment_in r).container [] [] h (omega arith))

  -- and the same where the fields are
  same_kept : same (assignment_record x y) r ≡ (eqb x (assignment_in r).child && eqb y (assignment_in r).container)
  same_kept =
      ap (same (assignment_record x y)) (fields_of r e)
      ∙ sym (same_packed 512 x y (assignment_in r).child (assignment_in r).container [] [] h (omega arith)) ∙ same_two x y (assignment_in r).child (assignment_in r).container

  -- and begins with the assignment's record where they are
  begins_kept : begins (assignment_record x y) r ≡ (eqb x (assignment_in r).child && eqb y (assignment_in r).container)
  begins_kept = begins_all (assignment_record x y) r (sym e) ∙ same_kept

-- One assignment more.
module _ {mem : List ℕ} (t : Table mem) (x y : ℕ) (lx : x < 512) (ly : y < 512) where
  -- the record, and that every record of the group has one word
  wide : Wide 1 (group 776 1 1 mem)
  wide = wide_group (assignments_fit t)

  -- the policy after
  pub assignment_put : word mem 1 < 2000
      → policy_of (with_assignment x y mem) ≡ with_assignments (policy_of mem) (put assignment_fields (record { child = x; container = y }) (policy_of mem).assignments)
  unfolding with_assignment policy_of
  assignment_put few =
      let g = group 776 1 1 mem in
      let e : assignment_in (assignment_record x y) ≡ record { child = x; container = y } = assignment_back x y ly in
      assignments_regrouped t (wide_put wide (assignment_record x y) (λ r. r) refl) (put_few (λ r. r) (assignment_record x y) (assignments_fit t) few)
      ∙ ap (with_assignments (policy_of mem)) (
      map_put assignment_in (λ r. r) assignment_fields (assignment_record x y) g (λ r i. order_kept x y ly r (wide.each r i) ∙ ap (λ a. before (assignment_fields a) (assignment_fields (assignment_in r))) (sym e))
      ∙ rw (e, ← assignments_group mem) refl)

  -- a record that is the assignment's denotes it
  found : is_assigned (policy_of mem) x y ≡ false → (r : List ℕ) → In r (group 776 1 1 mem) → same (assignment_record x y) r ≡ false
  unfolding is_assigned policy_of
  found n r i =
      same_kept x y ly r (wide.each r i)
      ∙ any_none (λ a. eqb x a.child && eqb y a.container) (rw (assignments_group mem) at n) (in_map assignment_in i)

  -- and the memory is a table
  pub assignment_put_table : word mem 1 < 2000 → is_assigned (policy_of mem) x y ≡ false → Table (with_assignment x y mem)
  unfolding with_assignment
  assignment_put_table few n =
      assignments_table t (wide_put wide (assignment_record x y) (λ r. r) refl) (put_few (λ r. r) (assignment_record x y) (assignments_fit t) few)
      (rising_put (λ r. r) (assignment_record x y) (group 776 1 1 mem) (group_rises t) (found n))
      (λ r i. ⊎_elim (λ e. rw e (omega arith)) (λ j. group_small t r j) (put_in (λ r. r) (assignment_record x y) (group 776 1 1 mem) i))

  -- the words behind stay zero
  pub assignment_put_clear : word mem 1 < 2000 → Clear 776 1 1 2000 mem → Clear 776 1 1 2000 (with_assignment x y mem)
  unfolding with_assignment
  assignment_put_clear few = assignments_clear t (wide_put wide (assignment_record x y) (λ r. r) refl) (put_few (λ r. r) (assignment_record x y) (assignments_fit t) few)

  -- the policy with one assignment less
  pub assignment_less : policy_of (without_assignment x y mem) ≡ with_assignments (policy_of mem) (less_first (λ a. eqb x a.child && eqb y a.container) (policy_of mem).assignments)
  unfolding without_assignment policy_of
  assignment_less =
      let g = group 776 1 1 mem in
      assignments_regrouped t (wide_less wide (begins (assignment_record x y))) (less_few (begins (assignment_record x y)) (assignments_fit t))
      ∙ ap (with_assignments (policy_of mem)) (
      map_less assignment_in (begins (assignment_record x y)) (λ a. eqb x a.child && eqb y a.container) g (λ r i. begins_kept x y ly r (wide.each r i))
      ∙ rw (← assignments_group mem) refl)

  -- and the memory is a table
  pub assignment_less_table : Table (without_assignment x y mem)
  unfolding without_assignment
  assignment_less_table =
      assignments_table t (wide_less wide (begins (assignment_record x y))) (less_few (begins (assignment_record x y)) (assignments_fit t))
      (rising_less (λ r. r) (begins (assignment_record x y)) (group 776 1 1 mem) (group_rises t))
      (λ r i. group_small t r (less_in (begins (assignment_record x y)) (group 776 1 1 mem) i))

  -- the words behind stay zero
  pub assignment_less_clear : Clear 776 1 1 2000 mem → Clear 776 1 1 2000 (without_assignment x y mem)
  unfolding without_assignment
  assignment_less_clear = assignments_clear t (wide_less wide (begins (assignment_record x y))) (less_few (begins (assignment_record x y)) (assignments_fit t))

-- All assignments of an element out.
module _ {mem : List ℕ} (t : Table mem) (x : ℕ) where
  -- a record that stays
  abbrev stays : List ℕ → Bool
  stays r = not (eqb x (get_or r 0 0 / 512))

  wide_stays : Wide 1 (those stays (group 776 1 1 mem))
  wide_stays = record { each = λ r i. (wide_group (assignments_fit t)).each r (those_in stays (group 776 1 1 mem) i) }

  few_stay : length (those stays (group 776 1 1 mem)) ≤ 2000
  few_stay = omega (arith, those_length stays (group 776 1 1 mem), length_group 776 1 1 mem, t.few_assignments)

  -- the policy after
  pub assignments_less : policy_of (without_assignments_of x mem) ≡ with_assignments (policy_of mem) (those (λ a. not (eqb x a.child)) (policy_of mem).assignments)
  unfolding without_assignments_of policy_of
  assignments_less =
      assignments_regrouped t wide_stays few_stay
      ∙ ap (with_assignments (policy_of mem)) (map_those assignment_in stays (λ a. not (eqb x a.child)) (group 776 1 1 mem) (λ r i. refl) ∙ rw (← assignments_group mem) refl)

  -- and the memory is a table
  pub assignments_less_table : Table (without_assignments_of x mem)
  unfolding without_assignments_of
  assignments_less_table =
      assignments_table t wide_stays few_stay (rising_those (λ r. r) stays (group 776 1 1 mem) (group_rises t)) (λ r i. group_small t r (those_in stays (group 776 1 1 mem) i))

  -- the words behind stay zero
  pub assignments_less_clear : Clear 776 1 1 2000 mem → Clear 776 1 1 2000 (without_assignments_of x mem)
  unfolding without_assignments_of
  assignments_less_clear = assignments_clear t wide_stays few_stay
