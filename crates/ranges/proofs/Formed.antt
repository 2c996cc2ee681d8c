-- A prohibition that was read from the table is in range exactly if it is neither ill formed nor out of range.
-- Assumes nothing.
use mathlib.Core.Path.{◌≡◌, refl, sym, ap, ◌∙◌}
use mathlib.Core.Bool.{Bool, true, false, not, ◌&&◌, ◌||◌, not-not}
use Prim.Native.Nat.{◌^◌, ◌<◌}
use native.Mathlib.Omega.{arith}
use native.Mathlib.Decide.{dec_lt}
use borrow.Author.Tests.{lt-ltb, le-leb, lt-leb, eq-eqb, ne_eqb}
use Rattle.std.proofs.Math.Bool.{and-true, and-false}
use Rattle.model.specs.Lists.{all_of}
use Rattle.model.specs.Policy.{Prohibition, is_element_id, is_sort, is_form, is_right_set}
use Rattle.model.specs.Sound.{listed, subject_in_range, lists_fit, prohibition_fits}
use Rattle.model.specs.Command.{bad_prohibition, ill_formed}
use Rattle.prohibition.proofs.Whole.{bad_whole, ill_whole}

-- a prohibition is well formed exactly if it is not ill formed
well_formed : (b : Prohibition) → b.rights < 2 ^ 32 → {r : Bool} → r ≡ ill_formed b → not r ≡ (is_right_set b.rights && lists_fit b)
unfolding ill_formed is_right_set
well_formed b h e = elim (dec_lt 0 b.rights) [
  | yes l ↦ rw (e, ne_eqb b.rights 0 (λ z. omega arith), le-leb 1 b.rights l, lt-ltb b.rights (2 ^ 32) h) (not-not (lists_fit b))
  | no l ↦ rw (e, eq-eqb b.rights 0 (omega arith), lt-leb 1 b.rights (omega arith)) refl
]

-- a prohibition fits exactly if it is neither ill formed nor out of range
fits_by_tests : (b : Prohibition) → b.rights < 2 ^ 32 → {r s : Bool} → r ≡ ill_formed b → s ≡ bad_prohibition b → prohibition_fits b ≡ (not r && not s)
unfolding prohibition_fits bad_prohibition
fits_by_tests b h q p =
    rw (well_formed b h q, p) (six (is_sort b.sort) (subject_in_range b) (is_form b.form) (is_right_set b.rights) (all_of is_element_id (listed b)) (lists_fit b))
  where
    six : (s j f r i l : Bool) → (s && j && f && r && i && l) ≡ ((r && l) && not (not s || not f || not j || not i))
    six false j f r i l = sym (and-false (r && l))
    six true false true r i l = sym (and-false (r && l))
    six true false false r i l = sym (and-false (r && l))
    six true true false r i l = sym (and-false (r && l))
    six true true true true false l = sym (and-false l)
    six true true true false false l = refl
    six true true true true true l = sym (and-true l)
    six true true true false true l = refl

-- the prohibition that was read, asked with zeros for what plays no part
module _ {a b : Prohibition} (e : a ≡ b) (l : a.rights < 2 ^ 32) {r : Bool} (q : r ≡ ill_formed (record a { sort = 0; subject = 0; form = 0 })) where
  fits_told : {s : Bool} → s ≡ bad_prohibition a → prohibition_fits b ≡ (not r && not s)
  fits_told p = ap prohibition_fits (sym e) ∙ fits_by_tests a l (q ∙ sym (ill_whole a)) p

  -- it is ill formed
  pub ill_told : r ≡ true → not r ≡ prohibition_fits b
  ill_told h = rw (fits_told refl, h) refl

  -- or else it is out of range, or neither
  pub bad_told : r ≡ false → {s : Bool} → s ≡ bad_prohibition (record a { rights = 0 }) → not s ≡ prohibition_fits b
  bad_told h p = rw (fits_told (p ∙ sym (bad_whole a)), h) refl
