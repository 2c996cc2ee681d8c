-- An image that neither 11 nor 12 refuses has all its fields.
-- Assumes nothing.
use mathlib.Core.Path.{◌≡◌, refl, sym}
use mathlib.Core.Bool.{Bool, true, false}
use mathlib.Core.List.{List}
use Prim.Native.Nat.{ℕ, ◌*◌, ◌^◌, ◌≤◌}
use native.Mathlib.Omega.{arith}
use borrow.Author.Tests.{ltb-true, ltb-false}
use lib.Dec.{ltb}
use lib.ListN.{length}
use Rattle.model.specs.Bits.{bits_of}
use Rattle.model.specs.Image.{other_form}
use Rattle.model.specs.Refusal.{refusal}
use Rattle.model.proofs.Truth.{clash}
use Rattle.measure.specs.Places.{end_at, Uncut}
use Rattle.measure.specs.Sizes.{misfits, size_lines}
use Rattle.measure.proofs.Judged.{cut_misfits}
use Rattle.measure.proofs.Longest.{long_misfits}
use Rattle.measure.proofs.Numbers.{gives_11, misfit_12}

-- its form is 1, and it has as many bytes as its fields take
pub neither_holds : (s : List ℕ) → refusal (size_lines s) ≡ 0 → (other_form s ≡ false) × (misfits s ≡ false)
neither_holds s h = go (other_form s) refl (misfits s) refl
  where
    go : (f : Bool) → f ≡ other_form s → (m : Bool) → m ≡ misfits s → (other_form s ≡ false) × (misfits s ≡ false)
    go true e m d = let n = gives_11 s true e refl in absurd (omega arith)
    go false e true d = let n = misfit_12 s false true e refl d refl in absurd (omega arith)
    go false e false d = (sym e, sym d)

-- it has all its fields
pub uncut : (s : List ℕ) → refusal (size_lines s) ≡ 0 → Uncut s
uncut s h = record { few = few (ltb 17925 (length s)) refl; room = room (ltb (8 * length s) (end_at (bits_of s))) refl }
  where
    few : (b : Bool) → ltb 17925 (length s) ≡ b → length s ≤ 2 ^ 32
    few true e = absurd (clash (sym (long_misfits s (ltb-true 17925 (length s) e))) (neither_holds s h).1)
    few false e = let k = ltb-false 17925 (length s) e in omega arith

    room : (b : Bool) → ltb (8 * length s) (end_at (bits_of s)) ≡ b → end_at (bits_of s) ≤ 8 * length s
    room true e =
        absurd (clash (sym (cut_misfits s (ltb-true (8 * length s) (end_at (bits_of s)) e))) (neither_holds s h).1)
    room false e = ltb-false (8 * length s) (end_at (bits_of s)) e
