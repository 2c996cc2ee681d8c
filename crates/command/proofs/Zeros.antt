-- Each word behind a group's last record is 0, and stays so whatever accepted command is given.
-- Assumes nothing.
use mathlib.Core.Path.{◌≡◌, refl, ap, ◌∙◌}
use mathlib.Core.Bool.{Bool, not}
use mathlib.Core.List.{List}
use mathlib.Core.Logic.{inl, inr}
use Prim.Native.Nat.{ℕ, ◌+◌, ◌*◌, ◌/◌, ◌≤◌, ◌<◌}
use native.Mathlib.Omega.{arith}
use lib.Dec.{eqb}
use lib.ListN.{length, get_or, set}
use lib.Seq.{get_or-set_other}
use Rattle.model.specs.Lists.{put}
use Rattle.model.specs.Policy.{Association, Prohibition}
use Rattle.model.specs.Refusal.{None, proper}
use Rattle.model.specs.Command.{Command, create_class, create_element, assign, deassign, delete_element, create_association, delete_association, create_prohibition, delete_prohibition, start_process, end_process, command_lines}
use Rattle.model.proofs.Truth.{those_in}
use Rattle.model.proofs.Groups.{those_length}
use Rattle.table.specs.Layout.{word}
use Rattle.table.specs.View.{policy_of}
use Rattle.table.specs.Facts.{Table}
use Rattle.group.specs.Group.{group, regroup, begins, Wide, Clear}
use Rattle.group.proofs.Wide.{wide_put, wide_less}
use Rattle.group.proofs.Kept.{length_group, wide_group, put_few, less_few}
use Rattle.group.proofs.Regrouped.{zero_beyond}
use Rattle.group.proofs.Others.{Apart, other_clear}
use Rattle.store.specs.Words.{assignment_record, with_kind, with_user, with_assignment, without_assignment, without_assignments_of, association_record, with_association, without_association}
use Rattle.store.specs.ProhibitionWords.{Storable, prohibition_front, prohibition_record, with_prohibition, without_prohibition}
use Rattle.store.proofs.Assigned.{assignments_fit}
use Rattle.store.proofs.Associated.{associations_fit}
use Rattle.store.proofs.Recorded.{storable_narrow, length_record}
use Rattle.store.proofs.Prohibited.{prohibitions_fit}
use Rattle.table.proofs.Counted.{assignments_long, associations_long, prohibitions_long}
use Rattle.command.specs.Commanded.{words_after}
use Rattle.command.proofs.Accepted.{new_class, new_element, new_assignment, old_element, new_association, new_prohibition, old_prohibition, new_process, old_process}
use Rattle.command.proofs.Policies.{first_table, still_room}

-- each word behind the assignments, the associations and the prohibitions is 0
pub record Zeros (mem : List ℕ) : Type 0 where
  pub assignments : Clear 776 1 1 2000 mem
  pub associations : Clear 2776 2 2 1000 mem
  pub prohibitions : Clear 5776 11 3 200 mem

-- a word set that is neither the group's counter nor in its room
set_clear : (base width counter most : ℕ) (mem : List ℕ) (at v : ℕ) → (counter ≡ at → ⊥) → at < base
    → Clear base width counter most mem → Clear base width counter most (set mem at v)
set_clear base width counter most mem at v d h c =
    let n : get_or (set mem at v) counter 0 ≡ get_or mem counter 0 = get_or-set_other mem at counter v 0 d in
    record {
      zero_at = λ i l k.
          let l' : base + width * get_or mem counter 0 ≤ i = rw n at l in
          get_or-set_other mem at i v 0 (λ e. omega arith) ∙ c.zero_at i l' k;
    }

-- a word set by id leaves the zeros
set_zeros : (mem : List ℕ) (at v : ℕ) → 8 ≤ at → at < 776 → Zeros mem → Zeros (set mem at v)
set_zeros mem at v l h z = record {
  assignments = set_clear 776 1 1 2000 mem at v (λ e. omega arith) (omega arith) z.assignments;
  associations = set_clear 2776 2 2 1000 mem at v (λ e. omega arith) (omega arith) z.associations;
  prohibitions = set_clear 5776 11 3 200 mem at v (λ e. omega arith) (omega arith) z.prohibitions;
}

-- A group lies before another, or behind it.
below : {base width counter most base' width' counter' most' : ℕ} → (counter' ≡ counter → ⊥) → counter' < base → counter < base'
    → base + width * most ≤ base' → Apart base width counter most base' width' counter' most'
below d h l r = record { counters = d; before = h; before' = l; rooms = inr r }

above : {base width counter most base' width' counter' most' : ℕ} → (counter' ≡ counter → ⊥) → counter' < base → counter < base'
    → base' + width' * most' ≤ base → Apart base width counter most base' width' counter' most'
above d h l r = record { counters = d; before = h; before' = l; rooms = inl r }

module _ {mem : List ℕ} (t : Table mem) (z : Zeros mem) {g : List (List ℕ)} where
  -- other assignments in their place
  assignments_zeros : Wide 1 g → length g ≤ 2000 → Zeros (regroup 776 1 1 g mem)
  assignments_zeros w few =
      let f = assignments_fit t in
      record {
        assignments = zero_beyond f w few z.assignments;
        associations = other_clear (below (λ e. omega arith) (omega arith) (omega arith) (omega arith)) f (associations_fit t) w few z.associations;
        prohibitions = other_clear (below (λ e. omega arith) (omega arith) (omega arith) (omega arith)) f (prohibitions_fit t) w few z.prohibitions;
      }

  -- other associations in theirs
  associations_zeros : Wide 2 g → length g ≤ 1000 → Zeros (regroup 2776 2 2 g mem)
  associations_zeros w few =
      let f = associations_fit t in
      record {
        assignments = other_clear (above (λ e. omega arith) (omega arith) (omega arith) (omega arith)) f (assignments_fit t) w few z.assignments;
        associations = zero_beyond f w few z.associations;
        prohibitions = other_clear (below (λ e. omega arith) (omega arith) (omega arith) (omega arith)) f (prohibitions_fit t) w few z.prohibitions;
      }

  -- other prohibitions in theirs
  prohibitions_zeros : Wide 11 g → length g ≤ 200 → Zeros (regroup 5776 11 3 g mem)
  prohibitions_zeros w few =
      let f = prohibitions_fit t in
      record {
        assignments = other_clear (above (λ e. omega arith) (omega arith) (omega arith) (omega arith)) f (assignments_fit t) w few z.assignments;
        associations = other_clear (above (λ e. omega arith) (omega arith) (omega arith) (omega arith)) f (associations_fit t) w few z.associations;
        prohibitions = zero_beyond f w few z.prohibitions;
      }

module _ {mem : List ℕ} (t : Table mem) (z : Zeros mem) where
  -- one assignment more
  assignment_more : (x y : ℕ) → word mem 1 < 2000 → Zeros (with_assignment x y mem)
  unfolding with_assignment
  assignment_more x y h =
      let f = assignments_fit t in
      assignments_zeros t z (wide_put (wide_group f) (assignment_record x y) (λ r. r) refl) (put_few (λ r. r) (assignment_record x y) f h)

  -- one less
  assignment_out : (x y : ℕ) → Zeros (without_assignment x y mem)
  unfolding without_assignment
  assignment_out x y =
      let f = assignments_fit t in
      assignments_zeros t z (wide_less (wide_group f) (begins (assignment_record x y))) (less_few (begins (assignment_record x y)) f)

  -- all of an element's less
  assignments_out : (x : ℕ) → Zeros (without_assignments_of x mem)
  unfolding without_assignments_of
  assignments_out x =
      let f = assignments_fit t in
      let stays : List ℕ → Bool = λ r. not (eqb x (get_or r 0 0 / 512)) in
      let g = group 776 1 1 mem in
      assignments_zeros t z (record { each = λ r i. (wide_group f).each r (those_in stays g i) })
      (omega (arith, those_length stays g, length_group 776 1 1 mem, t.few_assignments))

  -- one association more, or less
  association_more : (a : Association) → word mem 2 < 1000 → Zeros (with_association a mem)
  unfolding with_association
  association_more a h =
      let f = associations_fit t in
      associations_zeros t z (wide_put (wide_group f) (association_record a) (λ r. r) refl) (put_few (λ r. r) (association_record a) f h)

  association_out : (a : Association) → Zeros (without_association a mem)
  unfolding without_association
  association_out a =
      let f = associations_fit t in
      associations_zeros t z (wide_less (wide_group f) (begins (association_record a))) (less_few (begins (association_record a)) f)

  -- one prohibition more, or less
  module _ {b : Prohibition} (s : Storable b) where
    prohibition_more : word mem 3 < 200 → Zeros (with_prohibition b mem)
    unfolding with_prohibition
    prohibition_more h =
        let f = prohibitions_fit t in
        let l = length_record (storable_narrow s) in
        let e : with_prohibition b mem ≡ regroup 5776 11 3 (put (λ r. r) (prohibition_record b) (group 5776 11 3 mem)) mem =
        ap (λ (n : ℕ). regroup 5776 n 3 (put (λ r. r) (prohibition_record b) (group 5776 n 3 mem)) mem) l in
        rw e (prohibitions_zeros t z (wide_put (wide_group f) (prohibition_record b) (λ r. r) l) (put_few (λ r. r) (prohibition_record b) f h))

    prohibition_out : Zeros (without_prohibition b mem)
    unfolding without_prohibition
    prohibition_out =
        let f = prohibitions_fit t in
        prohibitions_zeros t z (wide_less (wide_group f) (begins (prohibition_front b))) (less_few (begins (prohibition_front b)) f)

-- a kind or a user set
kind_zeros : {mem : List ℕ} (x k : ℕ) → x ≤ 511 → Zeros mem → Zeros (with_kind x k mem)
unfolding with_kind
kind_zeros {mem} x k h z = set_zeros mem (8 + x) k (omega arith) (omega arith) z

user_zeros : {mem : List ℕ} (i u : ℕ) → i ≤ 255 → Zeros mem → Zeros (with_user i u mem)
unfolding with_user
user_zeros {mem} i u h z = set_zeros mem (520 + i) u (omega arith) (omega arith) z

-- The words behind the groups are 0 after every accepted command, where they were before.
pub zeros_after : {mem : List ℕ} → Table mem → (c : Command) → None (command_lines proper (policy_of mem) c) → Zeros mem → Zeros (words_after mem c)
unfolding words_after
zeros_after {mem} t (create_class x) n z = kind_zeros x 5 (new_class (policy_of mem) n).id.high z
zeros_after {mem} t (create_element x k y) n z =
    let e = new_element (policy_of mem) n in
    assignment_more (first_table t e) (kind_zeros x k e.id.high z) x y (still_room t e)
zeros_after {mem} t (assign x y) n z = assignment_more t z x y (omega (arith, assignments_long mem, (new_assignment (policy_of mem) n).room))
zeros_after {mem} t (deassign x y) n z = assignment_out t z x y
zeros_after {mem} t (delete_element x) n z = kind_zeros x 0 (old_element (policy_of mem) n).high (assignments_out t z x)
zeros_after {mem} t (create_association a) n z = association_more t z a (omega (arith, associations_long mem, (new_association (policy_of mem) n).room))
zeros_after {mem} t (delete_association a) n z = association_out t z a
zeros_after {mem} t (create_prohibition b) n z =
    let e = new_prohibition (policy_of mem) n in
    prohibition_more t z e.storable (omega (arith, prohibitions_long mem, e.room))
zeros_after {mem} t (delete_prohibition b) n z = prohibition_out t z (old_prohibition (policy_of mem) n).storable
zeros_after {mem} t (start_process i u) n z = user_zeros i u (new_process (policy_of mem) n).id.high z
zeros_after {mem} t (end_process i) n z = user_zeros i 0 (old_process (policy_of mem) n).high z
