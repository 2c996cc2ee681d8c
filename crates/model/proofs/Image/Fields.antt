-- Fields one after another, each a number of some width: written in front of other bits and read from them.
-- Assumes nothing.
use mathlib.Core.Path.{◌≡◌, refl}
use mathlib.Core.Bool.{Bool}
use mathlib.Core.List.{List, [], ◌∷◌, ◌++◌, map}
use Prim.Native.Nat.{ℕ, ◌+◌, ◌^◌, ◌≤◌, ◌<◌}
use native.Mathlib.Nat.{add_assoc, add-zero}
use native.Mathlib.Omega.{arith}
use lib.ListN.{length, drop, get_or, length-append, length-drop, take-append-drop}
use lib.Seq.{take_at, drop_at, drop-drop}
use Rattle.model.specs.Bits.{bits_n, num_at}
use Rattle.model.proofs.Image.Bits.{length_bits_n, num_bits_n, bits_n_front}

-- a number, and how many bits it is written in
pub record Field : Type 0 where
  pub width : ℕ
  pub number : ℕ

infix 25 ◌wide◌
abbrev pub ◌wide◌ : ℕ → ℕ → Field
n wide v = record { width = n; number = v }

-- the fields' bits, and others behind them
abbrev pub fields_then : List Field → List Bool → List Bool
fields_then [] rest = rest
fields_then (f ∷ fs) rest = bits_n f.width f.number ++ fields_then fs rest

-- how many bits these widths take
abbrev pub total : List ℕ → ℕ
total [] = 0
total (n ∷ ns) = n + total ns

-- the widths of fields
abbrev pub widths : List Field → List ℕ
widths fs = map (λ f. f.width) fs

-- the number of the ith field
abbrev pub nth : List Field → ℕ → ℕ
nth fs i = (get_or fs i (0 wide 0)).number

-- each number fits its width
abbrev pub Fit : List Field → Type 0
Fit [] = Unit
Fit (f ∷ fs) = (f.number < 2 ^ f.width) × Fit fs

-- the fields of these widths, from the place `at` on
abbrev pub fields_at : ℕ → List ℕ → List Bool → List Field
fields_at at [] l = []
fields_at at (n ∷ ns) l = (n wide num_at l at n) ∷ fields_at (at + n) ns l

-- fields take as many bits as their widths say
pub length_fields : (fs : List Field) (rest : List Bool) → length (fields_then fs rest) ≡ total (widths fs) + length rest
length_fields [] rest = omega arith
length_fields (f ∷ fs) rest =
    rw (length-append (bits_n f.width f.number) (fields_then fs rest), length_bits_n f.width f.number, length_fields fs rest) (omega arith)

past_field : (f : Field) (fs : List Field) (at : ℕ) (l rest : List Bool) → drop at l ≡ fields_then (f ∷ fs) rest → drop (at + f.width) l ≡ fields_then fs rest
past_field f fs at l rest e =
    rw (← drop-drop f.width at l, e) (drop_at (bits_n f.width f.number) (fields_then fs rest) f.width (length_bits_n f.width f.number))

-- fields that fit are read as they were written
pub fields_read : (fs : List Field) (at : ℕ) (l rest : List Bool) → Fit fs → drop at l ≡ fields_then fs rest → fields_at at (widths fs) l ≡ fs
unfolding num_at
fields_read [] at l rest h e = refl
fields_read (f ∷ fs) at l rest h e =
    rw (
      e,
      take_at (bits_n f.width f.number) (fields_then fs rest) f.width (length_bits_n f.width f.number),
      num_bits_n f.width f.number h.0,
      fields_read fs (at + f.width) l rest h.1 (past_field f fs at l rest e),
    )

-- and what is behind them is left
pub fields_past : (fs : List Field) (at : ℕ) (l rest : List Bool) → drop at l ≡ fields_then fs rest → drop (at + total (widths fs)) l ≡ rest
fields_past [] at l rest e = rw (add-zero at) e
fields_past (f ∷ fs) at l rest e =
    rw (← add_assoc at f.width (total (widths fs))) (fields_past fs (at + f.width) l rest (past_field f fs at l rest e))

-- what is read is what stands there
pub fields_written : (ns : List ℕ) (at : ℕ) (l : List Bool) → at + total ns ≤ length l → fields_then (fields_at at ns l) (drop (at + total ns) l) ≡ drop at l
unfolding num_at
fields_written [] at l h = rw (add-zero at)
fields_written (n ∷ ns) at l h =
    let k : n ≤ length (drop at l) = rw (length-drop at l) (omega arith) in
    rw (← add_assoc at n (total ns), fields_written ns (at + n) l (omega arith), bits_n_front n (drop at l) k, ← drop-drop n at l) (take-append-drop n (drop at l))
