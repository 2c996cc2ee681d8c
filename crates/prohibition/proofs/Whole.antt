-- The tests of a whole prohibition are those of one with zeros for what plays no part; and the ranges of one that passes them.
-- Assumes nothing.
use mathlib.Core.Path.{◌≡◌, refl}
use mathlib.Core.Bool.{Bool, true, false, not, ◌||◌}
use mathlib.Core.List.{◌++◌}
use Prim.Native.Nat.{◌≤◌, ◌<◌}
use native.Mathlib.Omega.{arith}
use borrow.Author.Tests.{not-false}
use Rattle.model.specs.Lists.{all_of}
use Rattle.model.specs.Policy.{Policy, Prohibition, is_element_id, is_sort, is_form}
use Rattle.model.specs.Sound.{subject_in_range, lists_fit, subject_there, subject_of_kind}
use Rattle.model.specs.Command.{bad_prohibition, absent_in, wrong_kind_in, ill_formed}
use Rattle.model.proofs.Truth.{or_fails}
use Rattle.model.proofs.Commands.Lines.{both_pass}
use Rattle.model.proofs.Image.Ranges.{sort_fits, form_fits, subject_fits}

module _ (b : Prohibition) where
  -- the range does not ask the rights
  pub bad_whole : bad_prohibition b ≡ bad_prohibition (record b { rights = 0 })
  unfolding bad_prohibition subject_in_range
  bad_whole = refl

  -- what is absent asks neither form nor rights
  pub absent_whole : (p : Policy) → absent_in p b ≡ absent_in p (record b { form = 0; rights = 0 })
  unfolding absent_in subject_there
  absent_whole p = refl

  -- nor does what is of another kind
  pub kind_whole : (p : Policy) → wrong_kind_in p b ≡ wrong_kind_in p (record b { form = 0; rights = 0 })
  unfolding wrong_kind_in subject_of_kind
  kind_whole p = refl

  -- what is ill formed asks neither subject nor form
  pub ill_whole : ill_formed b ≡ ill_formed (record b { sort = 0; subject = 0; form = 0 })
  unfolding ill_formed lists_fit
  ill_whole = refl

  -- what a prohibition in range has in range
  ranges : bad_prohibition b ≡ false → ((is_sort b.sort ≡ true) × (is_form b.form ≡ true)) × (subject_in_range b ≡ true)
  unfolding bad_prohibition
  ranges e =
      let s : Bool = subject_in_range b in
      let a = or_fails (not (is_sort b.sort) || not (is_form b.form) || not s) (not (all_of is_element_id (b.inclusion ++ b.exclusion))) e in
      let c = or_fails (not (is_sort b.sort) || not (is_form b.form)) (not s) a.0 in
      (both_pass (is_sort b.sort) (is_form b.form) c.0, not-false s c.1)

  -- its sort is at most 3
  pub sort_low : bad_prohibition b ≡ false → b.sort ≤ 3
  sort_low e = omega (arith, sort_fits b.sort (ranges e).0.0)

  -- its subject is below 512
  pub subject_low : bad_prohibition b ≡ false → b.subject < 512
  subject_low e = omega (arith, subject_fits b (ranges e).1)

  -- its form is at most 1
  pub form_low : bad_prohibition b ≡ false → b.form ≤ 1
  form_low e = omega (arith, form_fits b.form (ranges e).0.1)
