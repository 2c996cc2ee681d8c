-- Assignments, associations and prohibitions, each group laid into a table that has none of it: the table has just that group more.
-- Assumes nothing.
use mathlib.Core.Path.{◌≡◌, refl, sym, ap, ◌∙◌}
use mathlib.Core.Bool.{true}
use mathlib.Core.List.{List, [], map, map-map, map-id}
use Prim.Native.Nat.{ℕ, ◌≤◌, ◌<◌}
use native.Mathlib.Omega.{arith}
use lib.ListN.{length, get_or, length-map}
use Rattle.model.specs.Lists.{In, rising}
use Rattle.model.specs.Policy.{Assignment, Association, Prohibition, Policy, assignment_fields}
use Rattle.model.specs.Policy as policy
use Rattle.model.proofs.Truth.{same_truth, map_in, map_alike}
use Rattle.group.specs.Group.{regroup, Wide}
use Rattle.group.proofs.Regrouped.{group_regrouped}
use Rattle.table.specs.Layout.{word}
use Rattle.table.specs.View.{holds_table, policy_of}
use Rattle.table.specs.Facts.{Table, ShortLists}
use Rattle.table.proofs.Test.{table_of_lem, of_table}
use Rattle.table.proofs.Counted.{assignments_long, associations_long, prohibitions_long}
use Rattle.store.specs.Words.{assignment_record, association_record}
use Rattle.store.specs.ProhibitionWords.{prohibition_record}
use Rattle.store.proofs.Mapped.{map_rising, fields_packed}
use Rattle.store.proofs.Assigned.{assignment_in, assignments_fit, group_rises, assignments_regrouped, assignments_table, assignment_back}
use Rattle.store.proofs.Associated.{association_in, associations_regrouped, associations_table, association_back}
use Rattle.store.proofs.Recorded.{Narrow as Packed, prohibition_in, length_record, record_is, record_short}
use Rattle.store.proofs.Prohibited.{prohibitions_regrouped, prohibitions_table}
use Rattle.unpack.specs.Words.{with_assignments, with_associations, with_prohibitions}
use Rattle.unpack.proofs.StowedLayers.{records_wide, layer_regroup}

-- what is written so that each is read back is the list again
map_back : {A B : Type 0} (f : A → B) (g : B → A) (l : List A) → ((a : A) → In a l → g (f a) ≡ a) → map g (map f l) ≡ l
map_back f g l h = map-map g f l ∙ map_alike l h ∙ map-id l

-- A group that has no record is counted 0.
module _ (mem : List ℕ) where
  -- no assignment
  no_assignments : (policy_of mem).assignments ≡ [] → word mem 1 ≡ 0
  no_assignments e = sym (assignments_long mem) ∙ ap length e

  -- no association
  no_associations : (policy_of mem).associations ≡ [] → word mem 2 ≡ 0
  no_associations e = sym (associations_long mem) ∙ ap length e

  -- no prohibition
  no_prohibitions : (policy_of mem).prohibitions ≡ [] → word mem 3 ≡ 0
  no_prohibitions e = sym (prohibitions_long mem) ∙ ap length e

-- The associations.
module _ {mem : List ℕ} (t : Table mem) (none : (policy_of mem).associations ≡ []) (l : List Association) (few : length l ≤ 1000) where
  -- each record has two words
  associations_wide : Wide 2 (map association_record l)
  associations_wide = records_wide association_record 2 l (λ a i. refl)

  -- the words are those of the group put anew
  associations_are : with_associations l mem ≡ regroup 2776 2 2 (map association_record l) mem
  unfolding with_associations
  associations_are = layer_regroup association_record 2776 2 2 l mem (no_associations mem none)

  -- there is room for them
  associations_few : length (map association_record l) ≤ 1000
  associations_few = rw (length-map l association_record) few

  -- the words are a table
  pub associations_stowed_table : Table (with_associations l mem)
  associations_stowed_table = rw associations_are (associations_table t associations_wide associations_few)

  -- whose policy has those associations
  pub associations_stowed : ((a : Association) → In a l → a.target < 512) → policy_of (with_associations l mem) ≡ policy.with_associations (policy_of mem) l
  associations_stowed low =
      ap policy_of associations_are ∙ associations_regrouped t associations_wide associations_few
      ∙ ap (policy.with_associations (policy_of mem)) (map_back association_record association_in l (λ a i. association_back a (low a i)))

-- The prohibitions.
module _ {mem : List ℕ} (t : Table mem) (none : (policy_of mem).prohibitions ≡ []) (l : List Prohibition) (few : length l ≤ 200)
    (packed : (b : Prohibition) → In b l → Packed b) where
  -- each record has eleven words
  prohibitions_wide : Wide 11 (map prohibition_record l)
  prohibitions_wide = records_wide prohibition_record 11 l (λ b i. length_record (packed b i))

  -- and short lists
  prohibitions_short : (r : List ℕ) → In r (map prohibition_record l) → ShortLists r 0
  prohibitions_short r i = let m = map_in prohibition_record l i in rw (← m.is) (record_short (packed m.from m.there))

  -- the words are those of the group put anew
  prohibitions_are : with_prohibitions l mem ≡ regroup 5776 11 3 (map prohibition_record l) mem
  unfolding with_prohibitions
  prohibitions_are = layer_regroup prohibition_record 5776 11 3 l mem (no_prohibitions mem none)

  -- there is room for them
  prohibitions_few : length (map prohibition_record l) ≤ 200
  prohibitions_few = rw (length-map l prohibition_record) few

  -- the words are a table
  pub prohibitions_stowed_table : Table (with_prohibitions l mem)
  prohibitions_stowed_table = rw prohibitions_are (prohibitions_table t prohibitions_wide prohibitions_few prohibitions_short)

  -- whose policy has those prohibitions
  pub prohibitions_stowed : policy_of (with_prohibitions l mem) ≡ policy.with_prohibitions (policy_of mem) l
  prohibitions_stowed =
      ap policy_of prohibitions_are ∙ prohibitions_regrouped t prohibitions_wide prohibitions_few prohibitions_short
      ∙ ap (policy.with_prohibitions (policy_of mem)) (map_back prohibition_record prohibition_in l (λ b i. record_is (packed b i)))

-- the record of an assignment
abbrev pub record_of : Assignment → List ℕ
record_of a = assignment_record a.child a.container

-- The assignments: the words are a table just where they rise.
module _ {mem : List ℕ} (t : Table mem) (none : (policy_of mem).assignments ≡ []) (l : List Assignment) (few : length l ≤ 2000) where
  -- each record has one word
  assignments_wide : Wide 1 (map record_of l)
  assignments_wide = records_wide record_of 1 l (λ a i. refl)

  -- the words are those of the group put anew
  assignments_are : with_assignments l mem ≡ regroup 776 1 1 (map record_of l) mem
  unfolding with_assignments
  assignments_are = layer_regroup record_of 776 1 1 l mem (no_assignments mem none)

  -- there is room for them
  assignments_few : length (map record_of l) ≤ 2000
  assignments_few = rw (length-map l record_of) few

  module _ (low : (a : Assignment) → In a l → a.container < 512) where
    -- the words' policy has those assignments
    pub assignments_stowed : policy_of (with_assignments l mem) ≡ policy.with_assignments (policy_of mem) l
    assignments_stowed =
        ap policy_of assignments_are ∙ assignments_regrouped t assignments_wide assignments_few
        ∙ ap (policy.with_assignments (policy_of mem)) (map_back record_of assignment_in l (λ a i. assignment_back a.child a.container (low a i)))

    -- they rise as their words do
    words_rise : rising assignment_fields l ≡ rising (λ (r : List ℕ). r) (map record_of l)
    words_rise = map_rising record_of assignment_fields (λ (r : List ℕ). r) l
        (λ a b i j. fields_packed 512 a.child a.container b.child b.container [] [] (low a i) (low b j))

    -- the words hold a table just where they rise
    pub assignments_stowed_table : ((a : Assignment) → In a l → a.child < 512) → holds_table (with_assignments l mem) ≡ rising assignment_fields l
    assignments_stowed_table low' = same_truth (holds_table (with_assignments l mem)) (rising assignment_fields l) rises holds
      where
        rises : holds_table (with_assignments l mem) ≡ true → rising assignment_fields l ≡ true
        rises h =
            let y : Table (regroup 776 1 1 (map record_of l) mem) = rw assignments_are at (table_of_lem (with_assignments l mem) h) in
            words_rise ∙ ap (rising (λ (r : List ℕ). r)) (sym (group_regrouped (assignments_fit t) assignments_wide assignments_few)) ∙ group_rises y

        small : (r : List ℕ) → In r (map record_of l) → get_or r 0 0 < 262144
        small r i = let m = map_in record_of l i in rw (← m.is) (omega (arith, low m.from m.there, low' m.from m.there))

        holds : rising assignment_fields l ≡ true → holds_table (with_assignments l mem) ≡ true
        holds h = ap holds_table assignments_are ∙ of_table (assignments_table t assignments_wide assignments_few (sym words_rise ∙ h) small)
