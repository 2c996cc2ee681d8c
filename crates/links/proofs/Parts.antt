-- What a prohibition that was read from the table names.
-- Assumes nothing.
use mathlib.Core.Path.{◌≡◌, refl, sym, ap, ◌∙◌}
use mathlib.Core.Bool.{Bool, true, false, not, ◌&&◌, ◌||◌}
use Prim.Native.Nat.{ℕ}
use native.Mathlib.Omega.{arith}
use borrow.Author.Tests.{leb-true, ne_eqb}
use lib.Dec.{leb}
use Rattle.model.specs.Lists.{all_of}
use Rattle.model.specs.Policy.{Policy, Prohibition, is_attribute_kind, kind_of, is_there}
use Rattle.model.specs.Sound.{listed, subject_there, subject_of_kind, prohibition_pairs}
use Rattle.model.specs.Command.{absent_in, wrong_kind_in}
use Rattle.model.proofs.Truth.{clash, and_left, all_in, all_of_lem}
use Rattle.prohibition.proofs.Whole.{absent_whole, kind_whole}

-- an attribute is there
attribute_there : (p : Policy) (x : ℕ) → is_attribute_kind (kind_of p x) ≡ true → is_there p x ≡ true
unfolding is_attribute_kind is_there
attribute_there p x e =
    let l = leb-true 2 (kind_of p x) (and_left (leb 2 (kind_of p x)) (leb (kind_of p x) 4) e) in
    rw (ne_eqb (kind_of p x) 0 (λ z. omega arith))

-- a prohibition names what is there, of the right kinds, exactly if it names nothing that is absent and nothing of another kind
pairs_cut : (p : Policy) (b : Prohibition) → prohibition_pairs p b ≡ (not (absent_in p b) && not (wrong_kind_in p b))
unfolding prohibition_pairs absent_in wrong_kind_in
pairs_cut p b =
    four (subject_there p b) (subject_of_kind p b) (all_of (λ x. is_attribute_kind (kind_of p x)) (listed b)) (all_of (is_there p) (listed b))
    (λ e. all_of_lem (is_there p) (listed b) (λ x i. attribute_there p x (all_in (λ x. is_attribute_kind (kind_of p x)) e i)))
  where
    four : (s k q t : Bool) → (q ≡ true → t ≡ true) → (s && k && q) ≡ (not (not s || not t) && not (not k || not q))
    four false k q t h = refl
    four true false q false h = refl
    four true false q true h = refl
    four true true false false h = refl
    four true true false true h = refl
    four true true true false h = absurd (clash (h refl) refl)
    four true true true true h = refl

-- the prohibition that was read, asked with zeros for what plays no part
module _ (p : Policy) {a b : Prohibition} (e : a ≡ b) {r : Bool} (q : r ≡ absent_in p (record a { form = 0; rights = 0 })) where
  pairs_told : {s : Bool} → s ≡ wrong_kind_in p a → prohibition_pairs p b ≡ (not r && not s)
  pairs_told g = ap (prohibition_pairs p) (sym e) ∙ rw (q ∙ sym (absent_whole a p), g) (pairs_cut p a)

  -- it names what is absent
  pub prohibition_absent : r ≡ true → not r ≡ prohibition_pairs p b
  prohibition_absent h = rw (pairs_told refl, h) refl

  -- or else what is of another kind, or neither
  pub prohibition_kind : r ≡ false → {s : Bool} → s ≡ wrong_kind_in p (record a { form = 0; rights = 0 }) → not s ≡ prohibition_pairs p b
  prohibition_kind h g = rw (pairs_told (g ∙ sym (kind_whole a p)), h) refl
