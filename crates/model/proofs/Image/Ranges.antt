-- The ranges of 01, and the bits that what is in them fits.
-- Assumes nothing.
use mathlib.Core.Path.{◌≡◌}
use mathlib.Core.Bool.{Bool, true, false, cond, ◌&&◌}
use Prim.Native.Nat.{ℕ, ◌^◌, ◌≤◌, ◌<◌}
use native.Mathlib.Omega.{arith}
use borrow.Author.Tests.{leb-true, ltb-true}
use lib.Dec.{eqb, leb, ltb}
use Rattle.model.specs.Policy.{Prohibition, by_process, is_element_id, is_process_id, is_kind, is_right_set, is_sort, is_form}
use Rattle.model.specs.Sound.{subject_in_range}
use Rattle.model.proofs.Truth.{and_cut, and_right}

range : (lo hi x : ℕ) → (leb lo x && leb x hi) ≡ true → (lo ≤ x) × (x ≤ hi)
range lo hi x h = let c = and_cut (leb lo x) (leb x hi) h in (leb-true lo x c.0, leb-true x hi c.1)

-- "Elements, ids 1 to 511."
pub id_range : (x : ℕ) → is_element_id x ≡ true → (1 ≤ x) × (x ≤ 511)
unfolding is_element_id
id_range x h = range 1 511 x h

-- "Processes, ids 1 to 255"
pub process_range : (x : ℕ) → is_process_id x ≡ true → (1 ≤ x) × (x ≤ 255)
unfolding is_process_id
process_range x h = range 1 255 x h

-- what is in its range fits its bits
pub id_fits : (x : ℕ) → is_element_id x ≡ true → x < 2 ^ 9
id_fits x h = let r = id_range x h in omega arith

pub process_fits_lem : (x : ℕ) → is_process_id x ≡ true → x < 2 ^ 8
process_fits_lem x h = let r = process_range x h in omega arith

pub kind_fits : (x : ℕ) → is_kind x ≡ true → x < 2 ^ 3
unfolding is_kind
kind_fits x h = let r = range 1 5 x h in omega arith

pub rights_fit : (x : ℕ) → is_right_set x ≡ true → x < 2 ^ 32
unfolding is_right_set
rights_fit x h = ltb-true x (2 ^ 32) (and_right (leb 1 x) (ltb x (2 ^ 32)) h)

pub sort_fits : (x : ℕ) → is_sort x ≡ true → x < 2 ^ 2
unfolding is_sort
sort_fits x h = let r = range 1 3 x h in omega arith

pub form_fits : (x : ℕ) → is_form x ≡ true → x < 2 ^ 1
unfolding is_form
form_fits x h = let r = leb-true x 1 h in omega arith

-- a subject is a process or an element
pub subject_fits : (b : Prohibition) → subject_in_range b ≡ true → b.subject < 2 ^ 9
unfolding subject_in_range
subject_fits b h = go (eqb b.sort by_process) h
  where
    go : (t : Bool) → cond t (is_process_id b.subject) (is_element_id b.subject) ≡ true → b.subject < 2 ^ 9
    go true h = let k = process_fits_lem b.subject h in omega arith
    go false h = id_fits b.subject h
