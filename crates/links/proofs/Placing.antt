-- Whether each element but a class is assigned, from child to child: an id between two children that follow each other has no assignment.
-- Assumes nothing.
use mathlib.Core.Path.{◌≡◌, refl, sym, ap, ◌∙◌}
use mathlib.Core.Bool.{Bool, true, false, not, or-false}
use mathlib.Core.List.{List}
use Prim.Native.Nat.{ℕ, ◌+◌, ◌*◌, ◌/◌, ◌^◌, ◌≤◌, ◌<◌}
use native.Mathlib.Omega.{arith}
use native.Mathlib.Decide.{dec_lt}
use borrow.Author.Tests.{eq-eqb, eqb-true, not-true, not-false}
use lib.Dec.{eqb}
use Rattle.model.specs.Lists.{any_of}
use Rattle.model.specs.Policy.{Assignment}
use Rattle.model.specs.Sound.{all_assigned}
use Rattle.model.proofs.Truth.{clash, or_right, same_truth, fails_when, any_in, any_found}
use Rattle.table.specs.Layout.{assignment_count, assignment_word}
use Rattle.table.specs.View.{assignment_at, assignments_of, policy_of}
use Rattle.table.specs.Facts.{Table}
use Rattle.table.proofs.Tabled.{in_tabulate, tabulate_in}
use Rattle.table.proofs.Assignments.{rising_le}
use Rattle.links.specs.Returning.{is_free, are_free}
use Rattle.links.proofs.Lifting.{counted_low}
use Rattle.links.proofs.Numbered.{is_placed, IdsPass, ids_none, elements_pass, assigned_each}
use Rattle.links.proofs.Free.{free_each, each_free}

module _ (mem : List ℕ) where
  -- a child is placed
  child_placed : (i : ℕ) → i < assignment_count mem → is_placed (policy_of mem) (assignment_word mem i / 512) ≡ true
  unfolding is_placed policy_of assignments_of
  child_placed i l =
      let c : ℕ = assignment_word mem i / 512 in
      let t : Assignment → Bool = λ a. eqb a.child c in
      or_right (is_free (policy_of mem) c) (any_of t (assignments_of mem)) (any_in t (in_tabulate (assignment_count mem) (assignment_at mem) i l) (eq-eqb c c refl))

  -- an id that is no child is placed exactly if it is free
  other_placed : (x : ℕ) → ((i : ℕ) → i < assignment_count mem → assignment_word mem i / 512 ≡ x → ⊥) → is_placed (policy_of mem) x ≡ is_free (policy_of mem) x
  unfolding is_placed policy_of assignments_of
  other_placed x none =
      let t : Assignment → Bool = λ a. eqb a.child x in
      let e : any_of t (assignments_of mem) ≡ false = fails_when (any_of t (assignments_of mem)) (λ h.
      let w = any_found t (assignments_of mem) h in
      let d = tabulate_in (assignment_count mem) (assignment_at mem) w.there in
      none d.at d.early (ap (λ (a : Assignment). a.child) d.is ∙ eqb-true w.it.child x w.is)) in
      rw e (or-false (is_free (policy_of mem) x))

-- c is the child of assignment i
module _ {mem : List ℕ} (t : Table mem) {n : ℕ} (count : n ≡ assignment_count mem) {i : ℕ} (l : i < n) {c : ℕ} (is : c ≡ assignment_word mem i / 512) where
  -- it is no greater than the first number that is no id
  pub child_most : c ≤ 512
  child_most = omega (arith, counted_low t count l is)

  -- the id behind it fits in a word
  pub next_fits : c + 1 < 2 ^ 32
  next_fits = omega (arith, counted_low t count l is)

-- each id below x is placed, and x is above the child of each assignment before i
pub record PlacedTo (mem : List ℕ) (x i : ℕ) : Type 0 where
  pub top : x ≤ 512
  pub inside : i ≤ assignment_count mem
  pub passed : IdsPass (is_placed (policy_of mem)) x
  pub before : (j : ℕ) → j < i → assignment_word mem j < x * 512

-- before the first assignment
pub placed_none : (mem : List ℕ) → PlacedTo mem 1 0
placed_none mem = record {
  top = omega arith;
  inside = omega arith;
  passed = ids_none (is_placed (policy_of mem));
  before = λ j l. absurd (omega arith);
}

module _ {mem : List ℕ} {x i : ℕ} (s : PlacedTo mem x i) where
  -- the ids from x on and below `to`, where no assignment from i on has a child below it
  module _ (to : ℕ) (top : to ≤ 512) (later : (j : ℕ) → i ≤ j → j < assignment_count mem → to * 512 ≤ assignment_word mem j) where
    -- they are placed exactly if they are free
    gap_placed : (k : ℕ) → x ≤ k → k < to → is_placed (policy_of mem) k ≡ is_free (policy_of mem) k
    gap_placed k a b = other_placed mem k (λ j l e. elim (dec_lt j i) [
      | yes h ↦ omega (arith, s.before j h)
      | no h ↦ omega (arith, later j (omega arith) l)
    ])

    -- they are free where all elements are assigned
    gap_free : all_assigned (policy_of mem) ≡ true → are_free (policy_of mem) x to ≡ true
    gap_free e = each_free (policy_of mem) x to (λ k a b. sym (gap_placed k a b) ∙ assigned_each mem e k (omega (arith, s.passed.some)) (omega arith))

    -- where they are, all below `to` are placed
    gap_passed : are_free (policy_of mem) x to ≡ true → (k : ℕ) → 1 ≤ k → k < to → is_placed (policy_of mem) k ≡ true
    gap_passed e k a b = elim (dec_lt k x) [
      | yes h ↦ s.passed.passed k a h
      | no h ↦ let l : x ≤ k = omega arith in gap_placed k l b ∙ free_each (policy_of mem) x to e k l b
    ]

  module _ (t : Table mem) {n : ℕ} (count : n ≡ assignment_count mem) where
    module _ (l : i < n) {c : ℕ} (is : c ≡ assignment_word mem i / 512) where
      -- none from i on has a child below its own
      later_child : (j : ℕ) → i ≤ j → j < assignment_count mem → c * 512 ≤ assignment_word mem j
      later_child j a b = omega (arith, rising_le t i j a b)

      -- where all below it are placed, so are those up to it
      placed_child : ((k : ℕ) → 1 ≤ k → k < c → is_placed (policy_of mem) k ≡ true) → PlacedTo mem (c + 1) (i + 1)
      placed_child h = record {
        top = omega (arith, counted_low t count l is);
        inside = omega arith;
        passed = record {
          some = omega arith;
          passed = λ k a b. elim (dec_lt k c) [
            | yes m ↦ h k a m
            | no m ↦ let e : k ≡ assignment_word mem i / 512 = omega arith in ap (is_placed (policy_of mem)) e ∙ child_placed mem i (omega arith)
          ];
        };
        before = λ j m. omega (arith, rising_le t j i (omega arith) (omega arith));
      }

      -- it is not above x
      pub placed_same : c ≤ x → PlacedTo mem (c + 1) (i + 1)
      placed_same h = placed_child (λ k a b. s.passed.passed k a (omega arith))

      -- the ids from x on and below it are free
      pub placed_more : {r : Bool} → r ≡ are_free (policy_of mem) x c → not r ≡ false → PlacedTo mem (c + 1) (i + 1)
      placed_more {r} e h = placed_child (gap_passed c (child_most t count l is) later_child (sym e ∙ not-false r h))

      -- one of them is not
      pub placed_fails : {r : Bool} → r ≡ are_free (policy_of mem) x c → not r ≡ true → false ≡ all_assigned (policy_of mem)
      placed_fails {r} e h =
          sym (fails_when (all_assigned (policy_of mem)) (λ a. clash (gap_free c (child_most t count l is) later_child a) (sym e ∙ not-true r h)))

    -- behind the last child: whether the ids that are left are free
    pub placed_all : n ≤ i → {r : Bool} → r ≡ are_free (policy_of mem) x 512 → r ≡ all_assigned (policy_of mem)
    placed_all h e =
        let later : (j : ℕ) → i ≤ j → j < assignment_count mem → 512 * 512 ≤ assignment_word mem j = λ j a b. absurd (omega arith) in
        e ∙ same_truth (are_free (policy_of mem) x 512) (all_assigned (policy_of mem))
        (λ a. elements_pass mem (gap_passed 512 (omega arith) later a))
        (gap_free 512 (omega arith) later)
