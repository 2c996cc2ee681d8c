-- The counts as the head says them, and the walk over the prohibitions.
-- Assumes nothing.
use mathlib.Core.Path.{◌≡◌, ◌∙◌}
use mathlib.Core.Bool.{Bool}
use mathlib.Core.List.{List}
use Prim.Native.Nat.{ℕ, suc, ◌+◌, ◌-◌, ◌*◌, ◌^◌, ◌≤◌, ◌<◌, min}
use native.Mathlib.Numerals.{add-one}
use native.Mathlib.Omega.{arith}
use native.Mathlib.Decide.{dec_lt}
use borrow.Author.Tests.{lt-ltb, le-ltb}
use lib.ListN.{length}
use Rattle.model.specs.Bits.{bits_of, num_at}
use Rattle.bits.specs.Cursor.{Taken}
use Rattle.measure.specs.Places.{listed_at, behind, up_to, Counted}
use Rattle.measure.proofs.Placed.{behind_more}

-- five numbers taken one after another, from the fifth bit on, are the counts
pub counted : (s : List ℕ) (e c a d o f b g q h : ℕ) → Taken s 4 9 e c → Taken s c 11 a d → Taken s d 10 o f → Taken s f 8 b g → Taken s g 8 q h
    → Counted (bits_of s) e a o b q
counted s e c a d o f b g q h t1 t2 t3 t4 t5 =
    let n1 : c ≡ 13 = t1.next_is in
    let n2 : d ≡ 24 = omega (arith, t2.next_is) in
    let n3 : f ≡ 34 = omega (arith, t3.next_is) in
    let n4 : g ≡ 42 = omega (arith, t4.next_is) in
    record {
      elements_are = t1.value_is;
      assignments_are = rw n1 at t2.value_is;
      associations_are = rw n2 at t3.value_is;
      prohibitions_are = rw n3 at t4.value_is;
      processes_are = rw n4 at t5.value_is;
      few_elements = t1.small;
      few_assignments = t2.small;
      few_associations = t3.small;
      few_prohibitions = t4.small;
      few_processes = t5.small;
    }

-- a place that is not past all the bits is itself
pub up_to_in : (all p : ℕ) → p ≤ all → p ≡ up_to all p
unfolding up_to
up_to_in all p h = rw (le-ltb all p h)

-- one that is past them is the first past them
pub up_to_past : (all p : ℕ) → all < p → all + 1 ≡ up_to all p
unfolding up_to
up_to_past all p h = rw (lt-ltb all p h) (add-one all)

-- the lesser of the place and the first past them
up_to_min : (all p : ℕ) → min p (all + 1) ≡ up_to all p
up_to_min all p = elim (dec_lt all p) [
  | yes h ↦ omega (arith, up_to_past all p h)
  | no h ↦ let k : p ≤ all = omega arith in omega (arith, up_to_in all p k)
]

-- i of n prohibitions from the place `at` on are passed, up to the place p
pub record Passed (s : List ℕ) (at n all p i : ℕ) : Type 0 where
  pub all_are : all ≡ 8 * length s
  pub few : length s ≤ 2 ^ 32
  pub some : i ≤ n
  pub near : p < 2 ^ 36
  pub same : behind (bits_of s) at n ≡ behind (bits_of s) p (n - i)

-- none are passed at first
pub none_passed : (s : List ℕ) (at n all : ℕ) → all ≡ 8 * length s → length s ≤ 2 ^ 32 → at < 2 ^ 32 → Passed s at n all at 0
none_passed s at n all e h k =
    let z : n - 0 ≡ n = omega arith in
    record { all_are = e; few = h; some = omega arith; near = omega arith; same = rw z }

module _ (s : List ℕ) (at n all p i : ℕ) (now : Passed s at n all p i) where
  -- the bits end within the next one
  pub cut_within : i < n → all < p + 50 → all + 1 ≡ up_to (8 * length s) (behind (bits_of s) at n)
  cut_within h k =
      let m = behind_more (bits_of s) p (n - i) in
      let e = now.same in
      let f = now.all_are in
      rw f (up_to_past (8 * length s) (behind (bits_of s) at n) (omega arith))

  -- the next one is passed
  pub one_passed : (x c y d : ℕ) → i < n → p + 50 ≤ all → Taken s (p + 44) 3 x c → Taken s c 3 y d → Passed s at n all (d + 9 * (x + y)) (i + 1)
  unfolding behind
  one_passed x c y d h k t u =
      let l : List Bool = bits_of s in
      let nc : c ≡ p + 47 = omega (arith, t.next_is) in
      let nd : d ≡ p + 50 = omega (arith, u.next_is) in
      let ex : x ≡ num_at l (p + 44) 3 = t.value_is in
      let ey : y ≡ num_at l (p + 47) 3 = rw nc at u.value_is in
      let e : n - i ≡ suc (n - (i + 1)) = omega arith in
      let f : d + 9 * (x + y) ≡ p + 50 + 9 * listed_at l p = omega arith in
      record {
        all_are = now.all_are;
        few = now.few;
        some = omega arith;
        near = omega (arith, t.small, u.small);
        same = now.same ∙ rw (e, f);
      }

  -- all are passed
  pub all_passed : (r : ℕ) → r ≡ min p (all + 1) → n ≤ i → r ≡ up_to (8 * length s) (behind (bits_of s) at n)
  unfolding behind
  all_passed r m h =
      let z : n - i ≡ 0 = omega arith in
      let e : behind (bits_of s) at n ≡ p = now.same ∙ rw z in
      rw (e, ← now.all_are, m) (up_to_min all p)
