-- The walk from class to class of the element: the classes below c are those that it met, they are counted, and their rows are written.
-- Assumes nothing.
use mathlib.Core.Path.{◌≡◌, refl, sym, ap, ◌∙◌}
use mathlib.Core.Bool.{true, false}
use mathlib.Core.List.{List, [], ◌++◌, map}
use Prim.Native.Nat.{ℕ, ◌+◌, ◌≤◌, ◌<◌}
use native.Mathlib.Numerals.{add-one}
use native.Mathlib.Omega.{arith}
use lib.ListN.{length, get_or, set, length-append, length-map, length-set}
use Rattle.model.specs.Lists.{those, one, tabulate}
use Rattle.model.specs.Contain.{contained}
use Rattle.model.specs.Rule.{classes_of}
use Rattle.table.specs.Layout.{association_count}
use Rattle.table.specs.View.{policy_of, associations_of}
use Rattle.table.specs.Facts.{AtMost}
use Rattle.rule.specs.declared.Asking.{Asking}
use Rattle.held.specs.Lacking.{Rows}
use Rattle.std.specs.Prelude.{None}
use Rattle.held.specs.Passing.{LeastClass, NextClass}
use Rattle.lowest.specs.Named.{LowestOfClasses}
use Rattle.lowest.proofs.Walked.{is_class, Passed, Walked, walked, walked_end}
use Rattle.grants.specs.Numbers.{lowest_in, class_numbers, named_numbers, right_numbers}
use Rattle.grants.specs.Put.{Put}
use Rattle.grants.proofs.Below.{map-append, those_last, those_passed, those_few, classes_below, no_class}
use Rattle.grants.proofs.Placed.{put_none, put_one, put_then}

-- the classes of the element below c
abbrev classes_to : (mem : List ℕ) (q : Asking) (c : ℕ) → List ℕ
classes_to mem q c = those (is_class mem q) (tabulate c (λ i. i))

module _ (mem : List ℕ) (q : Asking) where
  -- below 1 there is none
  none_below : classes_to mem q 1 ≡ []
  none_below = no_class (contained (policy_of mem) q.element) mem

  -- below the next class there are no more than below c
  passed_below : {c r : ℕ} → c ≤ r → Passed mem q c r → classes_to mem q r ≡ classes_to mem q c
  passed_below {c} {r} l none = those_passed (is_class mem q) c r l none

  module _ (c : ℕ) (e : is_class mem q c ≡ true) where
    -- with a class there is one more
    one_more : classes_to mem q (c + 1) ≡ classes_to mem q c ++ one c
    unfolding those
    one_more = rw (add-one c) (those_last (is_class mem q) c ∙ (rw e refl))

    -- it is one of those below 512 besides
    one_below : c < 512 → length (classes_to mem q c) + 1 ≤ length (classes_to mem q 512)
    one_below l =
        let n : length (classes_to mem q (c + 1)) ≡ length (classes_to mem q c) + 1 = ap length one_more ∙ length-append (classes_to mem q c) (one c) in
        omega (arith, n, those_few (is_class mem q) (c + 1) 512 (omega arith))

  -- so those below it are with it
  next_below : {c r : ℕ} → Walked mem q c r → classes_to mem q (r + 1) ≡ classes_to mem q c ++ one r
  next_below {c} {r} w = one_more r w.its_class ∙ ap (λ (l : List ℕ). l ++ one r) (passed_below w.from w.none)

  -- where there is no more those below c are all
  all_below : {c : ℕ} → c ≤ 512 → Passed mem q c 512 → classes_to mem q c ≡ classes_of (contained (policy_of mem) q.element) (policy_of mem)
  all_below {c} l none = sym (passed_below l none) ∙ sym (classes_below (contained (policy_of mem) q.element) mem)

-- The walk has passed the n classes below c.
pub record CountedTo (mem : List ℕ) (q : Asking) (c n : ℕ) : Type 0 where
  pub is : n ≡ length (classes_to mem q c)
  pub few : n + 1 ≤ c
  pub most : c ≤ 512

-- none is met below 1
pub count_start : (mem : List ℕ) (q : Asking) → CountedTo mem q 1 0
count_start mem q = record { is = ap length (sym (none_below mem q)); few = omega arith; most = omega arith }

module _ {mem rows : List ℕ} {q : Asking} (s : Rows mem rows false q) {c n : ℕ} (k : CountedTo mem q c n) where
  -- on behind the next
  pub count_more : {r : ℕ} → LeastClass mem rows q.over c 512 r → CountedTo mem q (r + 1) (n + 1)
  count_more {r} w = record {
    is = ap (λ (m : ℕ). m + 1) k.is ∙ sym (ap length (next_below mem q (walked s w)) ∙ length-append (classes_to mem q c) (one r));
    few = omega (arith, k.few, w.from);
    most = omega (arith, w.early);
  }

  -- there is no more: all are counted
  pub count_end : NextClass mem rows q.over c 512 None → AtMost (length (classes_of (contained (policy_of mem) q.element) (policy_of mem))) 511 n
  count_end none = record { is = k.is ∙ ap length (all_below mem q k.most (walked_end s none)); few = omega (arith, k.few, k.most) }

-- what a class names is an association of the table, or none
pub name_few : {mem : List ℕ} {q : Asking} {names : List ℕ} → LowestOfClasses mem q names → (c : ℕ) → c < 512 → get_or names c 0 ≤ association_count mem
name_few l c h = l.few c h

-- The walk has written the rows of the classes below c.
pub record WrittenTo (mem : List ℕ) (q : Asking) (alternative k c : ℕ) (out : List (List ℕ)) (at : ℕ) (out₁ : List (List ℕ)) (t : ℕ) : Type 0 where
  pub put : Put out at (map (class_numbers (policy_of mem) q alternative k) (classes_to mem q c)) out₁ t
  pub near : t ≤ length out₁
  pub most : c ≤ 512

-- none is written at first
pub write_start : (mem : List ℕ) (q : Asking) (alternative k : ℕ) {out : List (List ℕ)} {at : ℕ}
    → at + length (right_numbers (policy_of mem) q alternative k) ≤ length out → WrittenTo mem q alternative k 1 out at out at
write_start mem q alternative k {out} {at} h =
    let e : classes_to mem q 1 ≡ [] = none_below mem q in
    record { put = rw e (put_none out at); near = omega (arith, h); most = omega arith }

module _ {mem rows : List ℕ} {q : Asking} (s : Rows mem rows false q) {alternative k c : ℕ} {out : List (List ℕ)} {at : ℕ} {out₁ : List (List ℕ)} {t : ℕ}
    (f : WrittenTo mem q alternative k c out at out₁ t) where
  module _ {r : ℕ} (w : LeastClass mem rows q.over c 512 r) where
    -- the row of the next class has room
    pub write_room : at + length (right_numbers (policy_of mem) q alternative k) ≤ length out → t < length out₁
    unfolding right_numbers
    write_room h = omega (arith, h, f.put.next, f.put.size, so_far, passed, all, one_below mem q r (walked s w).its_class w.early)
      where
        so_far : length (map (class_numbers (policy_of mem) q alternative k) (classes_to mem q c)) ≡ length (classes_to mem q c)
        so_far = length-map (classes_to mem q c) (class_numbers (policy_of mem) q alternative k)

        passed : length (classes_to mem q r) ≡ length (classes_to mem q c)
        passed = ap length (passed_below mem q w.from (walked s w).none)

        all : length (map (class_numbers (policy_of mem) q alternative k) (classes_of (contained (policy_of mem) q.element) (policy_of mem))) ≡ length (classes_to mem q 512)
        all = length-map (classes_of (contained (policy_of mem) q.element) (policy_of mem)) (class_numbers (policy_of mem) q alternative k)
            ∙ ap length (classes_below (contained (policy_of mem) q.element) mem)

    -- it is written
    pub write_more : at + length (right_numbers (policy_of mem) q alternative k) ≤ length out → {names : List ℕ} → LowestOfClasses mem q names
        → {x : List ℕ} → x ≡ named_numbers mem (get_or names r 0) q alternative k r → WrittenTo mem q alternative k (r + 1) out at (set out₁ t x) (t + 1)
    unfolding class_numbers lowest_in policy_of associations_of
    write_more h low {x} e = record {
      put = rw rows_more (put_then f.put (rw (← row) (put_one out₁ t x)));
      near = omega (arith, length-set out₁ t x, write_room h);
      most = omega (arith, w.early);
    }
      where
        row : x ≡ class_numbers (policy_of mem) q alternative k r
        row = e ∙ (rw (low.is r (walked s w).its_class) refl)

        rows_more : map (class_numbers (policy_of mem) q alternative k) (classes_to mem q (r + 1))
            ≡ map (class_numbers (policy_of mem) q alternative k) (classes_to mem q c) ++ one (class_numbers (policy_of mem) q alternative k r)
        rows_more = ap (map (class_numbers (policy_of mem) q alternative k)) (next_below mem q (walked s w))
            ∙ map-append (class_numbers (policy_of mem) q alternative k) (classes_to mem q c) (one r)

  -- there is no more: all are written
  pub write_end : NextClass mem rows q.over c 512 None → Put out at (right_numbers (policy_of mem) q alternative k) out₁ t
  unfolding right_numbers
  write_end none =
      let e : classes_to mem q c ≡ classes_of (contained (policy_of mem) q.element) (policy_of mem) = all_below mem q f.most (walked_end s none) in
      rw e at f.put
