-- The associations as a group of records of two words, and the policy after one is put in or taken out.
-- Assumes nothing.
use mathlib.Core.Path.{◌≡◌, refl, sym, ap, ◌∙◌}
use mathlib.Core.List.{List, [], ◌∷◌, map}
use mathlib.Core.Logic.{inl, inr}
use Prim.Native.Nat.{ℕ, ◌+◌, ◌*◌, ◌/◌, ◌%◌, ◌≤◌, ◌<◌}
use native.Mathlib.Omega.{arith}
use lib.Dec.{ltb}
use lib.ListN.{length, take, drop, get_or}
use lib.Seq.{get_or-take, get_or-drop}
use Rattle.model.specs.Lists.{any_of, before, same, put, less_first}
use Rattle.model.specs.Policy.{Association, association_fields, has_association, with_associations}
use Rattle.table.specs.Layout.{word, association_start}
use Rattle.table.specs.View.{association_at, associations_of, policy_of}
use Rattle.table.specs.Facts.{Table}
use Rattle.group.specs.Group.{records, group, regroup, begins, first_of, Fits, Wide, Clear}
use Rattle.group.proofs.Compare.{begins_all}
use Rattle.group.proofs.Records.{records_at}
use Rattle.group.proofs.Regrouped.{count_regrouped, group_regrouped, zero_beyond}
use Rattle.group.proofs.Wide.{wide_put, wide_less}
use Rattle.group.proofs.Kept.{wide_group, put_few, less_few}
use Rattle.store.specs.Words.{association_record, with_association, without_association}
use Rattle.store.proofs.Frames.{Else, head_stays, elements_stay, processes_stay, assignments_stay, rising_stays, small_stays, prohibitions_stay, short_stays}
use Rattle.group.proofs.Records.{tabulate_alike}
use Rattle.store.proofs.Looked.{record_found}
use Rattle.store.proofs.Regroups.{regroup_leaves, two_words}
use Rattle.store.proofs.Mapped.{map_tabulate, map_put, map_less, fields_packed, same_packed}

-- the association that a record of two words is
abbrev pub association_in : List ℕ → Association
association_in r = record { attribute = get_or r 0 0 / 512; target = get_or r 0 0 % 512; rights = get_or r 1 0 }

-- word k of record i
record_word : (mem : List ℕ) (i k : ℕ) → k < 2 → get_or (take 2 (drop (2 * i) (drop 2776 mem))) k 0 ≡ word mem (association_start i + k)
record_word mem i k h =
    get_or-take 2 (drop (2 * i) (drop 2776 mem)) k 0 h ∙ get_or-drop (2 * i) (drop 2776 mem) k 0 ∙ get_or-drop 2776 mem (2 * i + k) 0 ∙ ap (λ (j : ℕ). get_or mem j 0) (omega arith)

-- the associations are the group's records
pub associations_group : (mem : List ℕ) → associations_of mem ≡ map association_in (group 2776 2 2 mem)
unfolding associations_of group
associations_group mem =
    sym (ap (map association_in) (records_at 2 (word mem 2) (drop 2776 mem))
    ∙ map_tabulate association_in (word mem 2) (λ i. take 2 (drop (2 * i) (drop 2776 mem)))
    ∙ tabulate_alike (word mem 2) (λ i. association_in (take 2 (drop (2 * i) (drop 2776 mem)))) (association_at mem) each)
  where
    each : (i : ℕ) → i < word mem 2 → association_in (take 2 (drop (2 * i) (drop 2776 mem))) ≡ association_at mem i
    each i h =
        let a : get_or (take 2 (drop (2 * i) (drop 2776 mem))) 0 0 ≡ word mem (association_start i) = record_word mem i 0 (omega arith) ∙ ap (word mem) (omega arith) in
        rw (a, record_word mem i 1 (omega arith)) refl

-- room for the associations
pub associations_fit : {mem : List ℕ} → Table mem → Fits 2776 2 2 1000 mem
associations_fit t = record { some = omega arith; apart = omega arith; room = omega (arith, t.size); few = t.few_associations; short = omega (arith, t.size) }

-- Other associations in their place: few, each of two words.
module _ {mem : List ℕ} (t : Table mem) {g : List (List ℕ)} (w : Wide 2 g) (few : length g ≤ 1000) where
  -- the words after
  after : List ℕ
  after = regroup 2776 2 2 g mem

  -- everything else stays
  leaves : Else mem after 2 2776 4776
  unfolding after
  leaves = regroup_leaves (associations_fit t) w few

  header : (i : ℕ) → i < 8 → (i ≡ 2 → ⊥) → word after i ≡ word mem i
  header = head_stays t leaves (omega arith) (omega arith)

  -- the policy with those associations
  pub associations_regrouped : policy_of (regroup 2776 2 2 g mem) ≡ with_associations (policy_of mem) (map association_in g)
  unfolding policy_of after
  associations_regrouped =
      let a : associations_of after ≡ map association_in g = associations_group after ∙ ap (map association_in) (group_regrouped (associations_fit t) w few) in
      rw (
        elements_stay t leaves (omega arith) (omega arith) (omega arith),
        processes_stay t leaves (omega arith) (omega arith) (inl (omega arith)),
        assignments_stay t leaves (omega arith) (omega arith) (λ e. omega arith) (inl (omega arith)),
        prohibitions_stay t leaves (omega arith) (omega arith) (λ e. omega arith) (inr (omega arith)),
        a,
      ) refl

  -- and the memory is a table
  pub associations_table : Table (regroup 2776 2 2 g mem)
  unfolding after
  associations_table = record {
    size = leaves.long ∙ t.size;
    marked = header 0 (omega arith) (λ e. omega arith) ∙ t.marked;
    few_assignments = omega (arith, header 1 (omega arith) (λ e. omega arith), t.few_assignments);
    few_associations = omega (arith, count_regrouped (associations_fit t) w few);
    few_prohibitions = omega (arith, header 3 (omega arith) (λ e. omega arith), t.few_prohibitions);
    rising = rising_stays t leaves (omega arith) (omega arith) (λ e. omega arith) (inl (omega arith));
    small = small_stays t leaves (omega arith) (omega arith) (λ e. omega arith) (inl (omega arith));
    short = short_stays t leaves (omega arith) (omega arith) (λ e. omega arith) (inr (omega arith));
  }

  -- where each word behind the last association was 0 it is so again
  pub associations_clear : Clear 2776 2 2 1000 mem → Clear 2776 2 2 1000 (regroup 2776 2 2 g mem)
  associations_clear = zero_beyond (associations_fit t) w few

-- the fields of a record are its words'
fields_of : (r : List ℕ) → length r ≡ 2 → r ≡ association_record (association_in r)
fields_of r e = two_words r e ∙ ap (λ (w : ℕ). w ∷ get_or r 1 0 ∷ []) (omega arith)

module _ (a : Association) (h : a.target < 512) where
  -- a record is read back
  pub association_back : association_in (association_record a) ≡ a
  association_back =
      let c : (a.attribute * 512 + a.target) / 512 ≡ a.attribute = omega arith in
      let d : (a.attribute * 512 + a.target) % 512 ≡ a.target = omega arith in
      rw (c, d) refl

  -- records are in the order of the fields
  order_kept : (r : List ℕ) → length r ≡ 2 → before (association_record a) r ≡ before (association_fields a) (association_fields (association_in r))
  order_kept r e =
      ap (before (association_record a)) (fields_of r e)
      ∙ sym (fields_packed 512 a.attribute a.target (association_in r).attribute (association_in r).target (a.rights ∷ []) ((association_in r).rights ∷ []) h (omega arith))

  -- and the same where the fields are
  same_kept : (r : List ℕ) → length r ≡ 2 → same (association_record a) r ≡ same (association_fields a) (association_fields (association_in r))
  same_kept r e =
      ap (same (association_record a)) (fields_of r e)
      ∙ sym (same_packed 512 a.attribute a.target (association_in r).attribute (association_in r).target (a.rights ∷ []) ((association_in r).rights ∷ []) h (omega arith))

  -- and one begins with the association's where they are
  begins_kept : (r : List ℕ) → length r ≡ 2 → begins (association_record a) r ≡ same (association_fields a) (association_fields (association_in r))
  begins_kept r e = begins_all (association_record a) r (sym e) ∙ same_kept r e

  -- One association more, and one less.
  module _ {mem : List ℕ} (t : Table mem) where
    wide : Wide 2 (group 2776 2 2 mem)
    wide = wide_group (associations_fit t)

    -- the policy with one association more
    pub association_put : word mem 2 < 1000 → policy_of (with_association a mem) ≡ with_associations (policy_of mem) (put association_fields a (policy_of mem).associations)
    unfolding with_association policy_of
    association_put few =
        associations_regrouped t (wide_put wide (association_record a) (λ r. r) refl) (put_few (λ r. r) (association_record a) (associations_fit t) few)
        ∙ ap (with_associations (policy_of mem)) (
        map_put association_in (λ r. r) association_fields (association_record a) (group 2776 2 2 mem) (λ r i. order_kept r (wide.each r i) ∙ ap (λ b. before (association_fields b) (association_fields (association_in r))) (sym association_back))
        ∙ rw (association_back, ← associations_group mem) refl)

    -- and the memory is a table
    pub association_put_table : word mem 2 < 1000 → Table (with_association a mem)
    unfolding with_association
    association_put_table few = associations_table t (wide_put wide (association_record a) (λ r. r) refl) (put_few (λ r. r) (association_record a) (associations_fit t) few)

    -- the words behind stay zero
    pub association_put_clear : word mem 2 < 1000 → Clear 2776 2 2 1000 mem → Clear 2776 2 2 1000 (with_association a mem)
    unfolding with_association
    association_put_clear few = associations_clear t (wide_put wide (association_record a) (λ r. r) refl) (put_few (λ r. r) (association_record a) (associations_fit t) few)

    -- the policy with one association less
    pub association_less : policy_of (without_association a mem) ≡ with_associations (policy_of mem) (less_first (λ b. same (association_fields a) (association_fields b)) (policy_of mem).associations)
    unfolding without_association policy_of
    association_less =
        associations_regrouped t (wide_less wide (begins (association_record a))) (less_few (begins (association_record a)) (associations_fit t))
        ∙ ap (with_associations (policy_of mem)) (
        map_less association_in (begins (association_record a)) (λ b. same (association_fields a) (association_fields b)) (group 2776 2 2 mem) (λ r i. begins_kept r (wide.each r i))
        ∙ rw (← associations_group mem) refl)

    -- and the memory is a table
    pub association_less_table : Table (without_association a mem)
    unfolding without_association
    association_less_table = associations_table t (wide_less wide (begins (association_record a))) (less_few (begins (association_record a)) (associations_fit t))

    -- the words behind stay zero
    pub association_less_clear : Clear 2776 2 2 1000 mem → Clear 2776 2 2 1000 (without_association a mem)
    unfolding without_association
    association_less_clear = associations_clear t (wide_less wide (begins (association_record a))) (less_few (begins (association_record a)) (associations_fit t))

    -- the association is there exactly if its record is found
    pub association_found : {at : ℕ} → at ≡ first_of (begins (association_record a)) (records 2 (word mem 2) (drop 2776 mem)) → ltb at (word mem 2) ≡ has_association (policy_of mem) a
    unfolding has_association policy_of
    association_found q =
        record_found association_in (λ b. same (association_fields a) (association_fields b)) (association_record a) 2776 2 2 mem q (λ r i. begins_kept r (wide.each r i))
        ∙ ap (any_of (λ b. same (association_fields a) (association_fields b))) (sym (associations_group mem))
