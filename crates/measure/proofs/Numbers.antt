-- 11 and 12: which of the two lines is the first that holds.
-- Assumes nothing.
use mathlib.Core.Path.{◌≡◌, refl, sym, ◌∙◌}
use mathlib.Core.Bool.{Bool, true, false}
use mathlib.Core.List.{List, [], ◌∷◌}
use Prim.Native.Nat.{ℕ, ◌<◌}
use native.Mathlib.Omega.{arith}
use lib.ListN.{length}
use Rattle.model.specs.Image.{other_form}
use Rattle.model.specs.Refusal.{refusal}
use Rattle.measure.specs.Sizes.{misfits, size_lines}
use Rattle.measure.proofs.Judged.{head_cut}
use Rattle.measure.proofs.Longest.{long_misfits}

-- the first line holds
pub gives_11 : (s : List ℕ) (f : Bool) → f ≡ other_form s → f ≡ true → 11 ≡ refusal (size_lines s)
unfolding refusal size_lines
gives_11 s f e h = let x : other_form s ≡ true = sym e ∙ h in rw x

-- it does not, and the second does
gives_12 : (s : List ℕ) → other_form s ≡ false → true ≡ misfits s → 12 ≡ refusal (size_lines s)
unfolding refusal size_lines
gives_12 s e h = rw (e, ← h)

-- no byte: no form, and cut
pub empty_12 : (s : List ℕ) → length s ≡ 0 → 12 ≡ refusal (size_lines s)
unfolding other_form
empty_12 [] h = gives_12 [] refl (head_cut [] (omega arith))
empty_12 (b ∷ s) h = absurd (omega arith)

-- more bytes than any fields take
pub long_12 : (s : List ℕ) (f : Bool) → f ≡ other_form s → f ≡ false → 17925 < length s → 12 ≡ refusal (size_lines s)
long_12 s f e h k = gives_12 s (sym e ∙ h) (long_misfits s k)

-- the second line holds
pub misfit_12 : (s : List ℕ) (f m : Bool) → f ≡ other_form s → f ≡ false → m ≡ misfits s → m ≡ true → 12 ≡ refusal (size_lines s)
misfit_12 s f m e h d k = gives_12 s (sym e ∙ h) (sym k ∙ d)

-- neither does
pub gives_0 : (s : List ℕ) (f m : Bool) → f ≡ other_form s → f ≡ false → m ≡ misfits s → m ≡ false → 0 ≡ refusal (size_lines s)
unfolding refusal size_lines
gives_0 s f m e h d k = let x : other_form s ≡ false = sym e ∙ h in let y : misfits s ≡ false = sym d ∙ k in rw (x, y)
