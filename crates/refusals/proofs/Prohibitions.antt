-- A prohibition that a command is given, by what was told of it with zeros for what plays no part.
-- Assumes nothing.
use mathlib.Core.Path.{◌≡◌, sym, ap, ◌∙◌}
use mathlib.Core.Bool.{Bool, false, not, ◌||◌}
use mathlib.Core.List.{List}
use Prim.Native.Nat.{ℕ, ◌≤◌, ◌<◌}
use lib.Dec.{eqb}
use Rattle.model.specs.Policy.{Policy, Prohibition}
use Rattle.model.specs.Command.{bad_prohibition, absent_in, wrong_kind_in, ill_formed}
use Rattle.store.specs.ProhibitionWords.{prohibition}
use Rattle.refusals.proofs.Ranges.{in_range_lem}
use Rattle.prohibition.proofs.Whole.{bad_whole, absent_whole, kind_whole, ill_whole, sort_low, subject_low, form_low}

module _ (b : Prohibition) {r t : Bool} where
  -- what it names is not there
  pub absent_told : (p : Policy) → r ≡ absent_in p (record b { form = 0; rights = 0 }) → r ≡ t → absent_in p b ≡ t
  absent_told p e h = absent_whole b p ∙ sym e ∙ h

  -- what it names is of another kind
  pub other_kind_told : (p : Policy) → r ≡ wrong_kind_in p (record b { form = 0; rights = 0 }) → r ≡ t → wrong_kind_in p b ≡ t
  other_kind_told p e h = kind_whole b p ∙ sym e ∙ h

  -- it is ill formed
  pub ill_formed_told : r ≡ ill_formed (record b { sort = 0; subject = 0; form = 0 }) → r ≡ t → ill_formed b ≡ t
  ill_formed_told e h = ill_whole b ∙ sym e ∙ h

  -- it, or the index, is out of range
  pub bad_told : {s : Bool} (c : Bool) → s ≡ (c || r) → r ≡ bad_prohibition (record b { rights = 0 }) → s ≡ t → (c || bad_prohibition b) ≡ t
  bad_told c e f h = ap (◌||◌ c) (bad_whole b ∙ sym f) ∙ sym e ∙ h

pub ruleset prohibitions = (absent_told, other_kind_told, ill_formed_told, bad_told)

-- Nothing is out of range.
module _ (sort subject form : ℕ) (inclusion exclusion : List ℕ)
    {r : Bool} (f : r ≡ bad_prohibition (prohibition sort subject form 0 inclusion exclusion))
    {s : Bool} (n : ℕ) (e : s ≡ (not (eqb n 32768) || r)) (h : s ≡ false) where
  abbrev b : Prohibition
  b = prohibition sort subject form 0 inclusion exclusion

  -- its sort is at most 3
  pub sort_small : sort ≤ 3
  sort_small = sort_low b (sym f ∙ in_range_lem n r e h)

  -- its subject is below 512
  pub subject_small : subject < 512
  subject_small = subject_low b (sym f ∙ in_range_lem n r e h)

  -- its form is at most 1
  pub form_small : form ≤ 1
  form_small = form_low b (sym f ∙ in_range_lem n r e h)
