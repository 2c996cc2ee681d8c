-- Records that all have the same width: what is put in or taken out keeps it.
-- Assumes nothing.
use mathlib.Core.Path.{◌≡◌, ap, ◌∙◌}
use mathlib.Core.Bool.{Bool}
use mathlib.Core.List.{List, [], ◌∷◌}
use mathlib.Core.Logic.{⊎_elim}
use Prim.Native.Nat.{ℕ, zero, suc, ◌+◌, ◌*◌, ◌≤◌}
use native.Mathlib.Nat.{mul-suc}
use native.Mathlib.Omega.{arith}
use lib.ListN.{length, drop, length-drop}
use lib.Seq.{length-take-le}
use Rattle.model.specs.Lists.{later, put, less_first}
use Rattle.model.proofs.Truth.{none_in, each_of, less_in}
use Rattle.model.proofs.Groups.{put_in}
use Rattle.group.specs.Group.{records, Wide}

-- no record has another width
pub wide_none : {width : ℕ} → Wide width []
wide_none = record { each = λ r i. absurd (none_in i) }

-- a record of the width before records of the width
pub wide_more : {width : ℕ} {r : List ℕ} {g : List (List ℕ)} → length r ≡ width → Wide width g → Wide width (r ∷ g)
wide_more {width} e w = record { each = each_of (λ (r : List ℕ). length r ≡ width) e w.each }

-- the records behind the first
pub wide_rest : {width : ℕ} {r : List ℕ} {g : List (List ℕ)} → Wide width (r ∷ g) → Wide width g
wide_rest w = record { each = λ r i. w.each r (later i) }

-- records out of enough words have the width
pub wide_records : (width n : ℕ) (l : List ℕ) → width * n ≤ length l → Wide width (records width n l)
unfolding records
wide_records width zero l h = wide_none
wide_records width (suc n) l h =
    let e : width * suc n ≡ width * n + width = mul-suc width n in
    wide_more (length-take-le width l (omega arith)) (wide_records width n (drop width l) (simp length-drop (omega arith)))

module _ {width : ℕ} {g : List (List ℕ)} (w : Wide width g) where
  -- all with a record of the width put in its place have the width
  pub wide_put : (a : List ℕ) (key : List ℕ → List ℕ) → length a ≡ width → Wide width (put key a g)
  wide_put a key e = record { each = λ r i. ⊎_elim (λ q. ap length q ∙ e) (w.each r) (put_in key a g i) }

  -- so have all less the first that passes
  pub wide_less : (f : List ℕ → Bool) → Wide width (less_first f g)
  wide_less f = record { each = λ r i. w.each r (less_in f g i) }
