-- What the test of the memory says: one law for each of its answers, and the facts that it stands for.
-- Assumes nothing.
use mathlib.Core.Path.{◌≡◌, refl, sym, ◌∙◌}
use mathlib.Core.Bool.{Bool, true, false, not, ◌&&◌}
use mathlib.Core.List.{List}
use Prim.Native.Nat.{ℕ, zero, suc, ◌+◌, ◌-◌, ◌≤◌, ◌<◌}
use native.Mathlib.Omega.{arith}
use borrow.Author.Tests.{not-true, not-false, eq-eqb, ne_eqb, eqb-true, lt-leb, le-leb, leb-true, lt-ltb, ltb-true}
use lib.Dec.{eqb, leb, ltb}
use lib.ListN.{length}
use Rattle.model.proofs.Truth.{and_left, and_right}
use Rattle.table.specs.Layout.{word_count, mark, word, assignment_count, association_count, prohibition_count, assignment_word, prohibition_start}
use Rattle.table.specs.View.{inclusion_count, exclusion_count, each_below, are_rising, are_small, has_short_lists, have_short_lists, holds_table}
use Rattle.table.specs.Facts.{ShortLists, Table}
use Rattle.table.proofs.Checks.{each_so, so_each}

-- The answers, in the order of the tests.
module _ (mem : List ℕ) where
  pub other_length : (length mem ≡ 8192 → ⊥) → false ≡ holds_table mem
  unfolding holds_table
  other_length h = rw (ne_eqb (length mem) 8192 h) refl

  module _ (l : length mem ≡ 8192) where
    pub other_mark : (word mem 0 ≡ mark → ⊥) → false ≡ holds_table mem
    unfolding holds_table
    other_mark h = rw (eq-eqb (length mem) 8192 l, ne_eqb (word mem 0) mark h) refl

    module _ (m : word mem 0 ≡ mark) where
      pub many_assignments : 2000 < word mem 1 → false ≡ holds_table mem
      unfolding holds_table
      many_assignments h = rw (eq-eqb (length mem) 8192 l, eq-eqb (word mem 0) mark m, lt-leb (word mem 1) 2000 h) refl

      module _ (a : word mem 1 ≤ 2000) where
        pub many_associations : 1000 < word mem 2 → false ≡ holds_table mem
        unfolding holds_table
        many_associations h = rw (eq-eqb (length mem) 8192 l, eq-eqb (word mem 0) mark m, le-leb (word mem 1) 2000 a, lt-leb (word mem 2) 1000 h) refl

        module _ (b : word mem 2 ≤ 1000) where
          pub many_prohibitions : 200 < word mem 3 → false ≡ holds_table mem
          unfolding holds_table
          many_prohibitions h =
              rw (eq-eqb (length mem) 8192 l, eq-eqb (word mem 0) mark m, le-leb (word mem 1) 2000 a, le-leb (word mem 2) 1000 b, lt-leb (word mem 3) 200 h) refl

          module _ (c : word mem 3 ≤ 200) {o : Bool} (e : o ≡ (are_rising mem (word mem 1) && are_small mem (word mem 1))) where
            pub out_of_order : not o ≡ true → false ≡ holds_table mem
            unfolding holds_table
            out_of_order h =
                let f : (are_rising mem (word mem 1) && are_small mem (word mem 1)) ≡ false = sym e ∙ not-true o h in
                rw (eq-eqb (length mem) 8192 l, eq-eqb (word mem 0) mark m, le-leb (word mem 1) 2000 a, le-leb (word mem 2) 1000 b, le-leb (word mem 3) 200 c)
                (sym (cut (are_rising mem (word mem 1)) (are_small mem (word mem 1)) (have_short_lists mem (word mem 3)) f))
              where
                cut : (x y z : Bool) → (x && y) ≡ false → (x && y && z) ≡ false
                cut true true z g = absurd (let q : ◌≡◌ {A = ℕ} 0 1 = cc in omega arith)
                cut true false z g = refl
                cut false y z g = refl

            pub short_decides : not o ≡ false → {t : Bool} → t ≡ have_short_lists mem (word mem 3) → t ≡ holds_table mem
            unfolding holds_table
            short_decides h {t} q =
                let f : (are_rising mem (word mem 1) && are_small mem (word mem 1)) ≡ true = sym e ∙ not-false o h in
                rw (eq-eqb (length mem) 8192 l, eq-eqb (word mem 0) mark m, le-leb (word mem 1) 2000 a, le-leb (word mem 2) 1000 b, le-leb (word mem 3) 200 c, and_left (are_rising mem (word mem 1)) (are_small mem (word mem 1)) f, and_right (are_rising mem (word mem 1)) (are_small mem (word mem 1)) f) q

-- Neighbours rise, so each rises above every earlier one.
rising_pairs : (mem : List ℕ) (n : ℕ) → are_rising mem n ≡ true → (i j : ℕ) → i < j → j < n → assignment_word mem i < assignment_word mem j
unfolding are_rising
rising_pairs mem n e i j h l = go (j - i - 1) j (omega arith) l
  where
    step : (k : ℕ) → suc k < n → assignment_word mem k < assignment_word mem (suc k)
    step k q = ltb-true (assignment_word mem k) (assignment_word mem (suc k)) (each_so (λ k. ltb (assignment_word mem k) (assignment_word mem (suc k))) (n - 1) e k (omega arith))

    go : (d j : ℕ) → j ≡ i + d + 1 → j < n → assignment_word mem i < assignment_word mem j
    go zero j q l = let s : j ≡ suc i = omega arith in rw s (step i (omega arith))
    go (suc d) j q l =
        let s : j ≡ suc (i + d + 1) = omega arith in
        let r = go d (i + d + 1) refl (omega arith) in
        let t = step (i + d + 1) (omega arith) in
        rw s (omega (arith, r, t))

-- What short lists are.
short_of : (mem : List ℕ) (start : ℕ) → has_short_lists mem start ≡ true → ShortLists mem start
unfolding has_short_lists
short_of mem start e =
    let i = inclusion_count mem start in
    let x = exclusion_count mem start in
    record { few_inclusions = leb-true i 4 (and_left (leb i 4) (leb x 4) e); few_exclusions = leb-true x 4 (and_right (leb i 4) (leb x 4) e) }

-- Memory that passes the test has all that a table has.
pub table_of_lem : (mem : List ℕ) → holds_table mem ≡ true → Table mem
unfolding holds_table are_small have_short_lists
table_of_lem mem e =
    let s : ℕ → Bool = λ i. ltb (assignment_word mem i) 262144 in
    let t : ℕ → Bool = λ i. has_short_lists mem (prohibition_start i) in
    let a1 = eqb (length mem) word_count in
    let a2 = eqb (word mem 0) mark in
    let a3 = leb (assignment_count mem) 2000 in
    let a4 = leb (association_count mem) 1000 in
    let a5 = leb (prohibition_count mem) 200 in
    let a6 = are_rising mem (assignment_count mem) in
    let a7 = each_below (assignment_count mem) s in
    let a8 = each_below (prohibition_count mem) t in
    let e7 = and_left (a1 && a2 && a3 && a4 && a5 && a6 && a7) a8 e in
    let e6 = and_left (a1 && a2 && a3 && a4 && a5 && a6) a7 e7 in
    let e5 = and_left (a1 && a2 && a3 && a4 && a5) a6 e6 in
    let e4 = and_left (a1 && a2 && a3 && a4) a5 e5 in
    let e3 = and_left (a1 && a2 && a3) a4 e4 in
    let e2 = and_left (a1 && a2) a3 e3 in
    record {
      size = eqb-true (length mem) word_count (and_left a1 a2 e2);
      marked = eqb-true (word mem 0) mark (and_right a1 a2 e2);
      few_assignments = leb-true (assignment_count mem) 2000 (and_right (a1 && a2) a3 e3);
      few_associations = leb-true (association_count mem) 1000 (and_right (a1 && a2 && a3) a4 e4);
      few_prohibitions = leb-true (prohibition_count mem) 200 (and_right (a1 && a2 && a3 && a4) a5 e5);
      rising = rising_pairs mem (assignment_count mem) (and_right (a1 && a2 && a3 && a4 && a5) a6 e6);
      small = λ i l. ltb-true (assignment_word mem i) 262144 (each_so s (assignment_count mem) (and_right (a1 && a2 && a3 && a4 && a5 && a6) a7 e7) i l);
      short = λ i l. short_of mem (prohibition_start i) (each_so t (prohibition_count mem) (and_right (a1 && a2 && a3 && a4 && a5 && a6 && a7) a8 e) i l);
    }

-- And the other way.
short_is : (mem : List ℕ) (start : ℕ) → ShortLists mem start → has_short_lists mem start ≡ true
unfolding has_short_lists
short_is mem start y = rw (le-leb (inclusion_count mem start) 4 y.few_inclusions) (le-leb (exclusion_count mem start) 4 y.few_exclusions)

-- What has all that a table has passes the test.
pub of_table : {mem : List ℕ} → Table mem → holds_table mem ≡ true
unfolding holds_table are_rising are_small have_short_lists
of_table {mem} t =
    rw (
      eq-eqb (length mem) word_count t.size,
      eq-eqb (word mem 0) mark t.marked,
      le-leb (assignment_count mem) 2000 t.few_assignments,
      le-leb (association_count mem) 1000 t.few_associations,
      le-leb (prohibition_count mem) 200 t.few_prohibitions,
      so_each (λ i. ltb (assignment_word mem i) (assignment_word mem (suc i))) (assignment_count mem - 1) (λ i l. lt-ltb (assignment_word mem i) (assignment_word mem (suc i)) (t.rising i (suc i) (omega arith) (omega arith))),
      so_each (λ i. ltb (assignment_word mem i) 262144) (assignment_count mem) (λ i l. lt-ltb (assignment_word mem i) 262144 (t.small i l)),
    ) (so_each (λ i. has_short_lists mem (prohibition_start i)) (prohibition_count mem) (λ i l. short_is mem (prohibition_start i) (t.short i l)))
