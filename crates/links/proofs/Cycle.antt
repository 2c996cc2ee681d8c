-- Whether a chain of assignments returns to its start, by the bits of the table's index.
-- Assumes nothing.
use mathlib.Core.Path.{◌≡◌, sym, ap, ◌∙◌}
use mathlib.Core.Bool.{Bool, true, not, ◌&&◌, not-not}
use mathlib.Core.List.{List}
use Prim.Native.Nat.{ℕ}
use borrow.Author.Tests.{ne_eqb}
use Rattle.model.specs.Lists.{In, any_of, all_of}
use Rattle.model.specs.Policy.{Assignment, kind_of, is_there}
use Rattle.model.specs.Contain.{contained}
use Rattle.model.specs.Sound.{assignment_pairs, association_pairs, prohibition_pairs, process_pairs, pairs_fit, no_cycle}
use Rattle.model.specs.Index.{index_of, index_bit, bit_at}
use Rattle.model.proofs.Truth.{and_left, all_in, any_alike}
use Rattle.model.proofs.Chains.{allowed_there}
use Rattle.model.proofs.Indexed.{index_bit_lem}
use Rattle.model.proofs.Commands.Names.{child_there}
use Rattle.table.specs.View.{policy_of}
use Rattle.table.proofs.Loops.{none_unless}
use Rattle.index.proofs.Seeds.{there_small}
use Rattle.links.specs.Returning.{returns_by}

module _ (mem : List ℕ) where
  -- the bit of two that are there
  bit_there : (x y : ℕ) → is_there (policy_of mem) x ≡ true → is_there (policy_of mem) y ≡ true
      → bit_at (index_of (policy_of mem)) x y ≡ contained (policy_of mem) x y
  unfolding index_bit
  bit_there x y h k =
      index_bit_lem (policy_of mem) x y (there_small {mem = mem} (record { is = h })) (there_small {mem = mem} (record { is = k })) ∙ rw (h, k)

  -- where each assignment names what is there, its bit says whether its container is within its child
  bit_tells : pairs_fit (policy_of mem) ≡ true → (a : Assignment) → In a (policy_of mem).assignments
      → bit_at (index_of (policy_of mem)) a.container a.child ≡ contained (policy_of mem) a.container a.child
  unfolding pairs_fit assignment_pairs is_there
  bit_tells e a m =
      let p = policy_of mem in
      let f : Bool = all_of (assignment_pairs p) p.assignments in
      let g : Bool = all_of (association_pairs p) p.associations in
      let h : Bool = all_of (prohibition_pairs p) p.prohibitions in
      let k : Bool = all_of (process_pairs p) p.processes in
      let q = all_in (assignment_pairs p) (and_left f g (and_left (f && g) h (and_left (f && g && h) k e))) m in
      let child = ne_eqb (kind_of p a.child) 0 (child_there (kind_of p a.child) (kind_of p a.container) q) in
      let container = ne_eqb (kind_of p a.container) 0 (allowed_there (kind_of p a.child) (kind_of p a.container) q) in
      bit_there a.container a.child (ap not container) (ap not child)

  -- the index tells of cycles
  pub cycle_told : pairs_fit (policy_of mem) ≡ true → {index : List ℕ} → index ≡ index_of (policy_of mem)
      → {r : Bool} → r ≡ returns_by index (policy_of mem).assignments → r ≡ not (no_cycle (policy_of mem))
  unfolding returns_by no_cycle
  cycle_told e {index} is t =
      let p = policy_of mem in
      t
      ∙ ap (λ (l : List ℕ). any_of (λ a. bit_at l a.container a.child) p.assignments) is
      ∙ any_alike p.assignments (bit_tells e)
      ∙ sym (not-not (any_of (λ a. contained p a.container a.child) p.assignments))
      ∙ ap not (sym (none_unless (λ a. contained p a.container a.child) p.assignments))
