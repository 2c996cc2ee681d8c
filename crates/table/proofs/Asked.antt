-- What the tests that calls begin with say: the memory holds a table, ids are in range, elements are there.
-- Assumes nothing.
use mathlib.Core.Path.{◌≡◌, refl, sym, ap, ◌∙◌}
use mathlib.Core.Bool.{Bool, true, false, not, ◌&&◌, ◌||◌}
use mathlib.Core.List.{List}
use Prim.Native.Nat.{ℕ, ◌≤◌, ◌<◌}
use native.Mathlib.Omega.{arith}
use borrow.Author.Tests.{le-leb, lt-leb, leb-true, not-true, not-false}
use lib.Dec.{eqb, leb}
use Rattle.model.specs.Policy.{Policy, is_element_id, is_process_id, kind_of, is_there, is_assigned}
use Rattle.model.proofs.Truth.{and_left, and_right}
use Rattle.table.specs.View.{holds_table, policy_of}
use Rattle.table.specs.Facts.{Table}
use Rattle.table.proofs.Test.{table_of_lem}

-- 0 is no id
pub id_zero : (x : ℕ) → x < 1 → false ≡ is_element_id x
unfolding is_element_id
id_zero x h = simp (lt-leb 1 x h)

-- any other number is one exactly if it is at most 511
pub id_rest : (x : ℕ) → 1 ≤ x → leb x 511 ≡ is_element_id x
unfolding is_element_id
id_rest x h = simp (le-leb 1 x h)

-- 0 is no id of a process
pub process_zero : (i : ℕ) → i < 1 → false ≡ is_process_id i
unfolding is_process_id
process_zero i h = simp (lt-leb 1 i h)

-- any other number is one exactly if it is at most 255
pub process_rest : (i : ℕ) → 1 ≤ i → leb i 255 ≡ is_process_id i
unfolding is_process_id
process_rest i h = simp (le-leb 1 i h)

-- an element is there exactly if its kind is not 0
pub there_is : (p : Policy) (x : ℕ) {k : ℕ} → k ≡ kind_of p x → not (eqb k 0) ≡ is_there p x
unfolding is_there
there_is p x e = ap (λ k. not (eqb k 0)) e

-- where the first of two tests fails, not both hold
pub first_fails : {r s : Bool} (t : Bool) → r ≡ s → not r ≡ true → false ≡ (s && t)
first_fails {r} t e f = rw (sym e ∙ not-true r f)

-- where the first holds, the second decides
pub second_decides : {r s q t : Bool} → r ≡ s → not r ≡ false → q ≡ t → q ≡ (s && t)
second_decides {r} e h f = rw (sym e ∙ not-false r h) f

-- where the memory was told to hold a table, it does
pub tested : (mem : List ℕ) {r : Bool} → r ≡ holds_table mem → not r ≡ false → Table mem
tested mem {r} e h = table_of_lem mem (sym e ∙ not-false r h)

-- the first of two ids is below 512
pub first_small : (x y : ℕ) {r : Bool} → r ≡ (is_element_id x && is_element_id y) → not r ≡ false → x < 512
unfolding is_element_id
first_small x y {r} e h = omega (arith, leb-true x 511 (and_right (leb 1 x) (leb x 511) (and_left (is_element_id x) (is_element_id y) (sym e ∙ not-false r h))))

-- and so is the second
pub second_small : (x y : ℕ) {r : Bool} → r ≡ (is_element_id x && is_element_id y) → not r ≡ false → y < 512
unfolding is_element_id
second_small x y {r} e h = omega (arith, leb-true y 511 (and_right (leb 1 y) (leb y 511) (and_right (is_element_id x) (is_element_id y) (sym e ∙ not-false r h))))

-- not both hold: one of them does not
pub not_both : (a b : Bool) → (a && b) ≡ false → (not a || not b) ≡ true
not_both true b e = rw e
not_both false b e = refl

-- both hold: neither does not
pub both : (a b : Bool) → (a && b) ≡ true → (not a || not b) ≡ false
both a b e = rw (and_left a b e, and_right a b e)

-- what was told not to be assigned is not
pub not_assigned : (mem : List ℕ) (x y : ℕ) {r : Bool} → r ≡ is_assigned (policy_of mem) x y → r ≡ false → is_assigned (policy_of mem) x y ≡ false
not_assigned mem x y e h = sym e ∙ h
