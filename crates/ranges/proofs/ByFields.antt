-- The order of words and the order of fields, group by group; and that the elements and the processes of a table fit.
-- Assumes nothing.
use mathlib.Core.Path.{◌≡◌, sym, ap, ap₂, ◌∙◌}
use mathlib.Core.Bool.{true}
use mathlib.Core.List.{List, [], ◌∷◌}
use Prim.Native.Nat.{ℕ, suc, ◌+◌, ◌*◌, ◌/◌, ◌%◌}
use native.Mathlib.Omega.{arith}
use borrow.Author.Tests.{le-leb}
use lib.Dec.{leb}
use lib.ListN.{length, take, get_or}
use lib.Seq.{take_all}
use Rattle.model.specs.Lists.{all_of, tabulate, before, rising}
use Rattle.model.specs.Policy.{Element, Process, is_element_id, is_process_id, is_kind, assignment_fields, association_fields}
use Rattle.model.specs.Sound.{element_fits, process_fits}
use Rattle.model.proofs.Truth.{and_join, all_of_lem, those_in, those_pass}
use Rattle.table.specs.Layout.{kind_word, user_word, association_count}
use Rattle.table.specs.View.{elements_of, processes_of, policy_of}
use Rattle.table.specs.Facts.{Table}
use Rattle.table.proofs.Tabled.{tabulate_in}
use Rattle.group.specs.Group.{group}
use Rattle.group.proofs.Kept.{wide_group}
use Rattle.store.proofs.Regroups.{one_word, two_words}
use Rattle.store.proofs.Mapped.{map_rising, fields_packed}
use Rattle.store.proofs.Assigned.{assignment_in, assignments_group, assignments_fit, group_rises}
use Rattle.store.proofs.Associated.{association_in, associations_group, associations_fit}
use Rattle.ranges.specs.Rising.{records_rise}

-- a word of two fields is in the order of its fields
word_order : (v w : ℕ) (us vs : List ℕ) → before (v ∷ us) (w ∷ vs) ≡ before (v / 512 ∷ v % 512 ∷ us) (w / 512 ∷ w % 512 ∷ vs)
word_order v w us vs =
    let p : v / 512 * 512 + v % 512 ≡ v = omega arith in
    let q : w / 512 * 512 + w % 512 ≡ w = omega arith in
    sym (fields_packed 512 (v / 512) (v % 512) (w / 512) (w % 512) us vs (omega arith) (omega arith) ∙ ap₂ (λ (x y : ℕ). before (x ∷ us) (y ∷ vs)) p q)

-- the assignments of a table rise
pub assignments_rise : {mem : List ℕ} → Table mem → rising assignment_fields (policy_of mem).assignments ≡ true
unfolding policy_of
assignments_rise {mem} t =
    let w = wide_group (assignments_fit t) in
    ap (rising assignment_fields) (assignments_group mem)
    ∙ sym (map_rising assignment_in (λ r. r) assignment_fields (group 776 1 1 mem) (λ r s i j. order r s (w.each r i) (w.each s j)))
    ∙ group_rises t
  where
    order : (r s : List ℕ) → length r ≡ 1 → length s ≡ 1 → before r s ≡ before (assignment_fields (assignment_in r)) (assignment_fields (assignment_in s))
    order r s p q = ap₂ before (one_word r p) (one_word s q) ∙ word_order (get_or r 0 0) (get_or s 0 0) [] []

-- the associations rise exactly if their words do
pub associations_rise_lem : {mem : List ℕ} → Table mem → records_rise mem 2776 2 (association_count mem) ≡ rising association_fields (policy_of mem).associations
unfolding policy_of records_rise group
associations_rise_lem {mem} t =
    let w = wide_group (associations_fit t) in
    map_rising association_in (take 2) association_fields (group 2776 2 2 mem) (λ r s i j. order r s (w.each r i) (w.each s j))
    ∙ ap (rising association_fields) (sym (associations_group mem))
  where
    order : (r s : List ℕ) → length r ≡ 2 → length s ≡ 2 → before (take 2 r) (take 2 s) ≡ before (association_fields (association_in r)) (association_fields (association_in s))
    order r s p q =
        ap₂ before (take_all 2 r (omega arith) ∙ two_words r p) (take_all 2 s (omega arith) ∙ two_words s q)
        ∙ word_order (get_or r 0 0) (get_or s 0 0) (get_or r 1 0 ∷ []) (get_or s 1 0 ∷ [])

-- The elements and the processes of any words, which stand by their ids.
module _ (mem : List ℕ) where
  -- each element fits
  pub elements_fit : all_of element_fits (policy_of mem).elements ≡ true
  unfolding policy_of elements_of element_fits is_element_id
  elements_fit =
      let f : ℕ → Element = λ i. record { id = suc i; kind = kind_word mem (suc i) } in
      all_of_lem element_fits (elements_of mem) (λ e m.
      let w = tabulate_in 511 f (those_in (λ e. is_kind e.kind) (tabulate 511 f) m) in
      let k : ℕ = suc w.at in
      let d : is_element_id e.id ≡ true = rw (← w.is) (and_join (leb 1 k) (leb k 511) (le-leb 1 k (omega arith)) (le-leb k 511 (omega (arith, w.early)))) in
      and_join (is_element_id e.id) (is_kind e.kind) d (those_pass (λ e. is_kind e.kind) (tabulate 511 f) m))

  -- each process fits
  pub processes_fit : all_of process_fits (policy_of mem).processes ≡ true
  unfolding policy_of processes_of process_fits is_process_id
  processes_fit =
      let f : ℕ → Process = λ i. record { id = suc i; owner = user_word mem (suc i) } in
      all_of_lem process_fits (processes_of mem) (λ q m.
      let w = tabulate_in 255 f (those_in (λ q. is_element_id q.owner) (tabulate 255 f) m) in
      let k : ℕ = suc w.at in
      let d : is_process_id q.id ≡ true = rw (← w.is) (and_join (leb 1 k) (leb k 255) (le-leb 1 k (omega arith)) (le-leb k 255 (omega (arith, w.early)))) in
      and_join (is_process_id q.id) (is_element_id q.owner) d (those_pass (λ q. is_element_id q.owner) (tabulate 255 f) m))
