-- The answer for an image from the answers for its groups, and that the groups lie within the image.
-- Assumes nothing.
use mathlib.Core.Path.{◌≡◌, sym, ap, ◌∙◌}
use mathlib.Core.Bool.{Bool, true, false, not, ◌&&◌}
use mathlib.Core.List.{List}
use Prim.Native.Nat.{ℕ, ◌+◌, ◌*◌, ◌≤◌}
use native.Mathlib.Omega.{arith}
use borrow.Author.Tests.{not-true, not-false}
use lib.Dec.{leb}
use lib.ListN.{length, drop}
use Rattle.model.specs.Sound.{within_limits}
use Rattle.model.specs.Bits.{bits_of}
use Rattle.model.specs.Image.{read_element, read_assignment, read_association, read_prohibition, read_process, read_group, read_policy}
use Rattle.model.proofs.Image.Groups.{group_count}
use Rattle.measure.specs.Places.{elements_in, assignments_in, associations_in, prohibitions_in, processes_in, assignments_at, associations_at, prohibitions_at, behind, up_to, Counted, Reaches, Uncut}
use Rattle.measure.proofs.Placed.{elements_in_lem, assignments_in_lem, associations_in_lem, prohibitions_in_lem, processes_in_lem, behind_more}
use Rattle.measure.proofs.Passing.{up_to_in}
use Rattle.screen.specs.Stowable.{elements_right, processes_right, all_short, stowable}

-- the place behind so many elements, assignments and associations
abbrev pub place_after : (elements assignments associations : ℕ) → ℕ
place_after elements assignments associations = 50 + 12 * elements + 18 * assignments + 50 * associations

-- the test in its parts, with the counts of the head for the lengths of the groups
tests : (l : List Bool) → stowable (read_policy l).value
    ≡ (leb (assignments_in l) 2000 && leb (associations_in l) 1000 && leb (prohibitions_in l) 200
    && elements_right (read_group read_element (elements_in l) (drop 50 l)).value
    && all_short (read_group read_prohibition (prohibitions_in l) (drop (prohibitions_at l) l)).value
    && processes_right (read_group read_process (processes_in l) (drop (behind l (prohibitions_at l) (prohibitions_in l)) l)).value)
unfolding stowable within_limits
tests l =
    rw (
      elements_in_lem l,
      assignments_in_lem l,
      associations_in_lem l,
      prohibitions_in_lem l,
      processes_in_lem l,
      group_count read_assignment (assignments_in l) (drop (assignments_at l) l),
      group_count read_association (associations_in l) (drop (associations_at l) l),
      group_count read_prohibition (prohibitions_in l) (drop (prohibitions_at l) l),
    )

module _ {l : List Bool} {elements assignments associations prohibitions processes : ℕ} (k : Counted l elements assignments associations prohibitions processes) where
  -- the same with the counts that were read
  parts : stowable (read_policy l).value
      ≡ (leb assignments 2000 && leb associations 1000 && leb prohibitions 200
      && elements_right (read_group read_element elements (drop 50 l)).value
      && all_short (read_group read_prohibition prohibitions (drop (place_after elements assignments associations) l)).value
      && processes_right (read_group read_process processes (drop (behind l (place_after elements assignments associations) prohibitions) l)).value)
  parts = tests l ∙ rw (k.elements_are, k.assignments_are, k.associations_are, k.prohibitions_are, k.processes_are)

  module _ {within : Bool} (w : within ≡ (leb assignments 2000 && leb associations 1000 && leb prohibitions 200)) where
    -- a group is past its limit
    pub past_limits : not within ≡ true → false ≡ stowable (read_policy l).value
    past_limits f = sym (parts ∙ rw (← w, not-true within f))

    module _ (wt : not within ≡ false) {first : Bool} (e : first ≡ elements_right (read_group read_element elements (drop 50 l)).value) where
      -- an element is not right
      pub wrong_element : not first ≡ true → false ≡ stowable (read_policy l).value
      wrong_element f = sym (parts ∙ rw (← w, not-false within wt, ← e, not-true first f))

      module _ (et : not first ≡ false) {short : Bool}
          (b : short ≡ all_short (read_group read_prohibition prohibitions (drop (place_after elements assignments associations) l)).value) where
        -- a list is too long
        pub long_list : not short ≡ true → false ≡ stowable (read_policy l).value
        long_list f = sym (parts ∙ rw (← w, not-false within wt, ← e, not-false first et, ← b, not-true short f))

        -- or else the processes decide
        last : not short ≡ false
            → processes_right (read_group read_process processes (drop (behind l (place_after elements assignments associations) prohibitions) l)).value
            ≡ stowable (read_policy l).value
        last f = sym (parts ∙ rw (← w, not-false within wt, ← e, not-false first et, ← b, not-false short f))

-- An image that has all its fields, and its counts.
module _ {s : List ℕ} (u : Uncut s) where
  -- the head lies within it
  pub head_reached : Reaches s 0 50
  head_reached = record {
    few = u.few;
    room = omega (arith, u.room, behind_more (bits_of s) (prohibitions_at (bits_of s)) (prohibitions_in (bits_of s)));
  }

  module _ {elements assignments associations prohibitions processes : ℕ} (k : Counted (bits_of s) elements assignments associations prohibitions processes) where
    -- so do the prohibitions and the processes behind them
    ends : behind (bits_of s) (place_after elements assignments associations) prohibitions + 17 * processes ≤ 8 * length s
    ends = rw (k.elements_are, k.assignments_are, k.associations_are, k.prohibitions_are, k.processes_are) u.room

    -- the elements lie within it
    pub elements_reached : Reaches s 50 (12 * elements)
    elements_reached = record {
      few = u.few;
      room = omega (arith, ends, behind_more (bits_of s) (place_after elements assignments associations) prohibitions);
    }

    -- the place behind the prohibitions does
    pub prohibitions_reached : Reaches s (behind (bits_of s) (place_after elements assignments associations) prohibitions) 0
    prohibitions_reached = record { few = u.few; room = omega (arith, ends) }

    module _ {at : ℕ} (e : at ≡ up_to (8 * length s) (behind (bits_of s) (place_after elements assignments associations) prohibitions)) where
      -- the place that was found is the one behind the prohibitions
      found : at ≡ behind (bits_of s) (place_after elements assignments associations) prohibitions
      found =
          e ∙ sym (up_to_in (8 * length s) (behind (bits_of s) (place_after elements assignments associations) prohibitions) (omega (arith, ends)))

      -- the processes behind it lie within the image
      pub processes_reached : Reaches s at (17 * processes)
      processes_reached = rw found (record { few = u.few; room = ends })

      -- and decide where all else is right
      pub by_processes : {limited : Bool} → limited ≡ (leb assignments 2000 && leb associations 1000 && leb prohibitions 200) → not limited ≡ false
          → {first : Bool} → first ≡ elements_right (read_group read_element elements (drop 50 (bits_of s))).value → not first ≡ false
          → {short : Bool}
          → short ≡ all_short (read_group read_prohibition prohibitions (drop (place_after elements assignments associations) (bits_of s))).value
          → not short ≡ false
          → {answer : Bool} → answer ≡ processes_right (read_group read_process processes (drop at (bits_of s))).value
          → answer ≡ stowable (read_policy (bits_of s)).value
      by_processes w wt f ft b bt a =
          a ∙ ap (λ (p : ℕ). processes_right (read_group read_process processes (drop p (bits_of s))).value) found ∙ last k w wt f ft b bt
