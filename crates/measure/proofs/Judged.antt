-- Cut, longer, a filling bit set: judged by the place behind the last field.
-- Assumes nothing.
use mathlib.Core.Path.{◌≡◌, refl, sym, ap, ◌∙◌}
use mathlib.Core.Bool.{Bool, true, false}
use mathlib.Core.List.{List}
use Prim.Native.Nat.{ℕ, ◌+◌, ◌-◌, ◌*◌, ◌^◌, ◌≤◌, ◌<◌}
use native.Mathlib.Omega.{arith}
use borrow.Author.Tests.{ltb-true, ltb-false, lt-ltb, le-ltb, le-leb, lt-leb}
use lib.Dec.{ltb, leb}
use lib.ListN.{length, length-drop}
use Rattle.model.specs.Bits.{bits_of}
use Rattle.model.specs.Image.{is_cut, is_longer, stray_filling}
use Rattle.model.proofs.Image.Bits.{length_bits_of}
use Rattle.measure.specs.Places.{prohibitions_at, prohibitions_in, processes_at, behind, end_at, up_to, Counted}
use Rattle.measure.specs.Sizes.{misfits, strays_from}
use Rattle.measure.proofs.Placed.{bits_taken, left_behind, behind_more}
use Rattle.measure.proofs.Passing.{up_to_in, up_to_past}

-- an image is cut where its fields end past its bits
pub cut_is : (s : List ℕ) → is_cut s ≡ ltb (8 * length s) (end_at (bits_of s))
unfolding is_cut
cut_is s = ap (ltb (8 * length s)) (bits_taken (bits_of s))

-- longer where eight bits or more stand behind them
pub longer_is : (s : List ℕ) → is_longer s ≡ leb 8 (8 * length s - end_at (bits_of s))
unfolding is_longer
longer_is s =
    ap (λ (l : List Bool). leb 8 (length l)) (left_behind (bits_of s)) ∙ rw (length-drop (end_at (bits_of s)) (bits_of s), length_bits_of s)

-- the filling is what stands behind them
pub filling_is : (s : List ℕ) → stray_filling s ≡ strays_from s (end_at (bits_of s))
unfolding stray_filling strays_from
filling_is s = rw (left_behind (bits_of s))

-- the fields end past the bits
pub cut_misfits : (s : List ℕ) → 8 * length s < end_at (bits_of s) → true ≡ misfits s
unfolding misfits
cut_misfits s h = rw (cut_is s, lt-ltb (8 * length s) (end_at (bits_of s)) h)

-- they end a byte or more before them
pub longer_misfits : (s : List ℕ) → end_at (bits_of s) + 8 ≤ 8 * length s → true ≡ misfits s
unfolding misfits
longer_misfits s h =
    rw (
      cut_is s,
      le-ltb (8 * length s) (end_at (bits_of s)) (omega arith),
      longer_is s,
      le-leb 8 (8 * length s - end_at (bits_of s)) (omega arith),
    )

-- they end in the last byte
strays_misfit : (s : List ℕ) → end_at (bits_of s) ≤ 8 * length s → 8 * length s < end_at (bits_of s) + 8 → strays_from s (end_at (bits_of s)) ≡ misfits s
unfolding misfits
strays_misfit s h k =
    rw (
      cut_is s,
      le-ltb (8 * length s) (end_at (bits_of s)) h,
      longer_is s,
      lt-leb 8 (8 * length s - end_at (bits_of s)) (omega arith),
      filling_is s,
    )

-- the bits end within the head
pub head_cut : (s : List ℕ) → 8 * length s < 50 → true ≡ misfits s
head_cut s h = let m = behind_more (bits_of s) (prohibitions_at (bits_of s)) (prohibitions_in (bits_of s)) in cut_misfits s (omega arith)

-- a place up to all the bits, and more behind it
up_to_within : (all p x : ℕ) → up_to all p + x ≤ all → up_to all p ≡ p
up_to_within all p x h = go (ltb all p) refl
  where
    go : (b : Bool) → ltb all p ≡ b → up_to all p ≡ p
    go true e = let u = up_to_past all p (ltb-true all p e) in absurd (omega arith)
    go false e = sym (up_to_in all p (ltb-false all p e))

up_to_over : (all p x : ℕ) → all < up_to all p + x → all < p + x
up_to_over all p x h = go (ltb all p) refl
  where
    go : (b : Bool) → ltb all p ≡ b → all < p + x
    go true e = let u = ltb-true all p e in omega arith
    go false e = let u = up_to_in all p (ltb-false all p e) in omega arith

up_to_most : (all p : ℕ) → up_to all p ≤ all + 1
up_to_most all p = go (ltb all p) refl
  where
    go : (b : Bool) → ltb all p ≡ b → up_to all p ≤ all + 1
    go true e = let u = up_to_past all p (ltb-true all p e) in omega arith
    go false e = let k = ltb-false all p e in let u = up_to_in all p k in omega arith

-- The counts, and the place behind the prohibitions, up to all the bits.
module _ (s : List ℕ) (e a o b q r : ℕ) (c : Counted (bits_of s) e a o b q)
    (h : r ≡ up_to (8 * length s) (behind (bits_of s) (50 + 12 * e + 18 * a + 50 * o) b)) where
  -- it is where the processes stand, if that is no further
  at_processes : r ≡ up_to (8 * length s) (processes_at (bits_of s))
  at_processes = h ∙ rw (c.elements_are, c.assignments_are, c.associations_are, c.prohibitions_are)

  -- behind the processes the fields end
  ends_there : r + 17 * q ≤ 8 * length s → r + 17 * q ≡ end_at (bits_of s)
  ends_there k =
      let p : r ≡ up_to (8 * length s) (processes_at (bits_of s)) = at_processes in
      let w = up_to_within (8 * length s) (processes_at (bits_of s)) (17 * q) (omega arith) in
      let n = c.processes_are in
      omega arith

  -- a sum that can be counted
  pub end_fits : length s ≤ 2 ^ 32 → r + 17 * q < 2 ^ 64
  end_fits k = let w = up_to_most (8 * length s) (processes_at (bits_of s)) in let p = at_processes in let n = c.few_processes in omega arith

  -- the bits end before that
  pub end_cut : 8 * length s < r + 17 * q → true ≡ misfits s
  end_cut k =
      let p = at_processes in
      let w = up_to_over (8 * length s) (processes_at (bits_of s)) (17 * q) (omega arith) in
      let n = c.processes_are in
      cut_misfits s (omega arith)

  -- a byte or more behind it
  pub end_longer : r + 17 * q ≤ 8 * length s → r + 17 * q + 8 ≤ 8 * length s → true ≡ misfits s
  end_longer k m = let z = ends_there k in longer_misfits s (omega arith)

  -- in the last byte
  pub end_strays : (t : Bool) → r + 17 * q ≤ 8 * length s → 8 * length s < r + 17 * q + 8 → t ≡ strays_from s (r + 17 * q) → t ≡ misfits s
  end_strays t k m g = let z = ends_there k in g ∙ rw z (strays_misfit s (omega arith) (omega arith))
