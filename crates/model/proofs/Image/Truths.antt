-- Several tests joined: each is true.
-- Assumes nothing.
use mathlib.Core.Path.{◌≡◌}
use mathlib.Core.Bool.{Bool, true, ◌&&◌}
use mathlib.Core.List.{List, [], ◌∷◌}
use Rattle.model.proofs.Truth.{and_cut}

-- a && b && c, and so on
abbrev pub joined : Bool → List Bool → Bool
joined a [] = a
joined a (b ∷ bs) = joined (a && b) bs

-- each of them is true
abbrev pub Truths : List Bool → Type 0
Truths [] = Unit
Truths (b ∷ bs) = (b ≡ true) × Truths bs

-- tests joined that are true are true each
pub truths : (a : Bool) (bs : List Bool) → joined a bs ≡ true → Truths (a ∷ bs)
truths a [] h = (h, tt)
truths a (b ∷ bs) h =
    let c = truths (a && b) bs h in
    let d = and_cut a b c.0 in
    (d.0, (d.1, c.1))
