-- The lines of load that are judged by the first byte and by how many bits there are.
-- Assumes nothing.
use Rattle.std.specs.Prelude.{Bool, not, ◌||◌, List, [], ◌∷◌, ℕ, drop}
use Rattle.model.specs.Lists.{all_of}
use Rattle.model.specs.Bits.{bits_of}
use Rattle.model.specs.Image.{other_form, is_cut, is_longer, stray_filling}
use Rattle.model.specs.Refusal.{Line, ◌when◌}

-- 12: "image cut, longer than its fields (all counts taken as written), or non-zero filling bits"
unfoldable pub misfits : List ℕ → Bool
misfits s = is_cut s || is_longer s || stray_filling s

-- a bit from a place on is set
unfoldable pub strays_from : List ℕ → (end : ℕ) → Bool
strays_from s end = not (all_of not (drop end (bits_of s)))

-- 11 and 12
unfoldable pub size_lines : List ℕ → List Line
size_lines s = (11 when other_form s) ∷ (12 when misfits s) ∷ []
