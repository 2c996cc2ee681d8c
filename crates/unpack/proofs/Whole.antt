-- The groups of an image one after the other: each lies within the image, has room in the words, and all of them laid are the words of the policy.
-- Assumes nothing.
use mathlib.Core.Path.{◌≡◌, sym, ap, ◌∙◌}
use mathlib.Core.Bool.{true}
use mathlib.Core.List.{List}
use Prim.Native.Nat.{ℕ, ◌+◌, ◌*◌, ◌^◌, ◌≤◌, ◌<◌}
use native.Mathlib.Omega.{arith}
use lib.ListN.{length, drop}
use Rattle.model.specs.Policy.{Assignment, Association, Prohibition}
use Rattle.model.specs.Bits.{bits_of}
use Rattle.model.specs.Image.{read_assignment, read_association, read_prohibition, read_group, policy_in}
use Rattle.model.proofs.Image.Groups.{group_count}
use Rattle.model.proofs.Image.Counts.{limits}
use Rattle.table.specs.View.{empty_table}
use Rattle.table.proofs.Empty.{empty_table_lem}
use Rattle.measure.specs.Places.{assignments_in, associations_in, prohibitions_in, assignments_at, associations_at, prohibitions_at, behind, up_to, Counted, Reaches, Uncut}
use Rattle.measure.proofs.Placed.{elements_in_lem, assignments_in_lem, associations_in_lem, prohibitions_in_lem, processes_in_lem, behind_more}
use Rattle.measure.proofs.Passing.{up_to_in}
use Rattle.screen.specs.Stowable.{all_short, stowable}
use Rattle.screen.proofs.Rules.{parts}
use Rattle.screen.proofs.Answers.{place_after, prohibitions_reached}
use Rattle.unpack.specs.Words.{by_id, with_assignments, with_associations, with_prohibitions, table_of}
use Rattle.unpack.proofs.ById.{kinds_by_id, users_by_id}

-- Where the bits reach behind the prohibitions,
module _ {s : List ℕ} (at a o b : ℕ) (r : Reaches s (behind (bits_of s) (at + 18 * a + 50 * o) b) 0) where
  -- those of the assignments are there
  pub assignments_reached : Reaches s at (18 * a)
  assignments_reached = record { few = r.few; room = omega (arith, r.room, behind_more (bits_of s) (at + 18 * a + 50 * o) b) }

  -- those of the associations
  pub associations_reached : Reaches s (at + 18 * a) (50 * o)
  associations_reached = record { few = r.few; room = omega (arith, r.room, behind_more (bits_of s) (at + 18 * a + 50 * o) b) }

  -- the place of the associations is a number of 64 bits
  pub second_fits : at + 18 * a < 2 ^ 64
  second_fits = omega (arith, r.few, associations_reached.room)

  -- so is that of the prohibitions
  pub third_fits : at + 18 * a + 50 * o < 2 ^ 64
  third_fits = omega (arith, r.few, associations_reached.room)

-- the assignments, the associations and the prohibitions are laid one after the other
pub relations_laid : (a : List Assignment) (o : List Association) (b : List Prohibition) (m₀ : List ℕ) {m₁ m₂ m₃ : List ℕ}
    → m₁ ≡ with_assignments a m₀ → m₂ ≡ with_associations o m₁ → m₃ ≡ with_prohibitions b m₂ → m₃ ≡ with_prohibitions b (with_associations o (with_assignments a m₀))
relations_laid a o b m₀ e f g = g ∙ ap (with_prohibitions b) (f ∙ ap (with_associations o) e)

-- the empty table has so many words
pub empty_size : {mem : List ℕ} → mem ≡ empty_table → length mem ≡ 8192
empty_size e = ap length e ∙ empty_table_lem.size

-- Of an image that has all its fields and whose records can be laid, and of the counts that its head says:
module _ {s : List ℕ} (u : Uncut s) {e a o b q : ℕ} (k : Counted (bits_of s) e a o b q) where
  module _ (t : stowable (policy_in s) ≡ true) where
    -- no more assignments than there is room for
    pub few_assignments : a ≤ 2000
    few_assignments =
        let n : length (policy_in s).assignments ≡ assignments_in (bits_of s) =
        rw (assignments_in_lem (bits_of s)) (group_count read_assignment (assignments_in (bits_of s)) (drop (assignments_at (bits_of s)) (bits_of s))) in
        let h = limits (policy_in s) (parts (policy_in s) t).limits in
        omega (arith, k.assignments_are, h.assignments)

    -- no more associations
    pub few_associations : o ≤ 1000
    few_associations =
        let n : length (policy_in s).associations ≡ associations_in (bits_of s) =
        rw (associations_in_lem (bits_of s)) (group_count read_association (associations_in (bits_of s)) (drop (associations_at (bits_of s)) (bits_of s))) in
        let h = limits (policy_in s) (parts (policy_in s) t).limits in
        omega (arith, k.associations_are, h.associations)

    -- no more prohibitions
    pub few_prohibitions : b ≤ 200
    few_prohibitions =
        let n : length (policy_in s).prohibitions ≡ prohibitions_in (bits_of s) =
        rw (prohibitions_in_lem (bits_of s)) (group_count read_prohibition (prohibitions_in (bits_of s)) (drop (prohibitions_at (bits_of s)) (bits_of s))) in
        let h = limits (policy_in s) (parts (policy_in s) t).limits in
        omega (arith, k.prohibitions_are, h.prohibitions)

    -- their lists are short
    pub lists_short_lem : all_short (read_group read_prohibition b (drop (place_after e a o) (bits_of s))).value ≡ true
    unfolding all_short
    lists_short_lem =
        rw (k.elements_are, k.assignments_are, k.associations_are, k.prohibitions_are, ← prohibitions_in_lem (bits_of s)) (parts (policy_in s) t).lists_short_lem

  -- the place behind the prohibitions, as it is found
  behind_is : {r : ℕ} → r ≡ up_to (8 * length s) (behind (bits_of s) (place_after e a o) b) → r ≡ behind (bits_of s) (place_after e a o) b
  behind_is f =
      let h : behind (bits_of s) (place_after e a o) b ≤ 8 * length s = omega (arith, (prohibitions_reached u k).room) in
      f ∙ sym (up_to_in (8 * length s) (behind (bits_of s) (place_after e a o) b) h)

  -- all groups laid over the empty table are the words of the policy
  pub all_laid : {r : ℕ} {m₀ m₁ m₂ m₃ : List ℕ} → m₀ ≡ empty_table → r ≡ up_to (8 * length s) (behind (bits_of s) (place_after e a o) b)
      → m₁ ≡ by_id 9 3 8 e (drop 50 (bits_of s)) m₀ → m₂ ≡ by_id 8 9 520 q (drop r (bits_of s)) m₁
      → m₃ ≡ with_prohibitions (read_group read_prohibition b (drop (place_after e a o) (bits_of s))).value
      (with_associations (read_group read_association o (drop (50 + 12 * e + 18 * a) (bits_of s))).value
      (with_assignments (read_group read_assignment a (drop (50 + 12 * e) (bits_of s))).value m₂))
      → m₃ ≡ table_of (policy_in s)
  unfolding table_of
  all_laid {r} {m₀} {m₁} z f x y w =
      w ∙ rw (
        y ∙ users_by_id q (drop r (bits_of s)) m₁,
        x ∙ kinds_by_id e (drop 50 (bits_of s)) m₀,
        z,
        behind_is f,
        k.elements_are,
        k.assignments_are,
        k.associations_are,
        k.prohibitions_are,
        k.processes_are,
        elements_in_lem (bits_of s),
        assignments_in_lem (bits_of s),
        associations_in_lem (bits_of s),
        prohibitions_in_lem (bits_of s),
        processes_in_lem (bits_of s),
      )
