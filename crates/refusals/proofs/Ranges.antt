-- The line of what is out of range: the length of the index, or a number that the command is given.
-- Assumes nothing.
use mathlib.Core.Path.{◌≡◌, sym, ap, ◌∙◌}
use mathlib.Core.Bool.{Bool, true, false, not, ◌||◌, or_assoc}
use Prim.Native.Nat.{ℕ, ◌<◌}
use native.Mathlib.Omega.{arith}
use borrow.Author.Tests.{eq-eqb, ne_eqb, leb-true, not-false}
use lib.Dec.{eqb, leb}
use Rattle.model.specs.Policy.{is_element_id, is_kind}
use Rattle.model.proofs.Truth.{and_right, or_fails}

-- another length than the published one
pub other_length : (n : ℕ) (bad : Bool) → (n ≡ 32768 → ⊥) → true ≡ (not (eqb n 32768) || bad)
other_length n bad d = rw (ne_eqb n 32768 d)

-- the published length: the numbers tell
pub published_length : (n : ℕ) (bad : Bool) → n ≡ 32768 → bad ≡ (not (eqb n 32768) || bad)
published_length n bad e = rw (eq-eqb n 32768 e)

-- The line, by what was told of it and of the numbers.
module _ {s r t : Bool} (b : Bool) where
  -- by one thing that must hold
  pub range_not : (a : Bool) → s ≡ (b || not r) → r ≡ a → s ≡ t → (b || not a) ≡ t
  range_not a e f h = ap (λ v. b || not v) (sym f) ∙ sym e ∙ h

  -- by two conditions
  pub range_either : (a c : Bool) → s ≡ (b || r) → r ≡ (a || c) → s ≡ t → (b || a || c) ≡ t
  range_either a c e f h = or_assoc b a c ∙ ap (◌||◌ b) (sym f) ∙ sym e ∙ h

  -- by three
  pub range_any : (a c d : Bool) → s ≡ (b || r) → r ≡ (a || c || d) → s ≡ t → (b || a || c || d) ≡ t
  range_any a c d e f h = ap (λ v. v || d) (or_assoc b a c) ∙ or_assoc b (a || c) d ∙ ap (◌||◌ b) (sym f) ∙ sym e ∙ h

-- nothing is out of range: the numbers are not bad
pub in_range_lem : {s : Bool} (n : ℕ) (r : Bool) → s ≡ (not (eqb n 32768) || r) → s ≡ false → r ≡ false
in_range_lem n r e h = (or_fails (not (eqb n 32768)) r (sym e ∙ h)).1

-- an id of an element is below 512
id_small : (x : ℕ) → not (is_element_id x) ≡ false → x < 512
unfolding is_element_id
id_small x h = omega (arith, leb-true x 511 (and_right (leb 1 x) (leb x 511) (not-false (is_element_id x) h)))

-- Two ids, and nothing is out of range.
module _ (x y : ℕ) {r : Bool} (f : r ≡ (not (is_element_id x) || not (is_element_id y)))
    {s : Bool} (n : ℕ) (e : s ≡ (not (eqb n 32768) || r)) (h : s ≡ false) where
  -- the first is below 512
  pub first_id : x < 512
  first_id = id_small x (or_fails (not (is_element_id x)) (not (is_element_id y)) (sym f ∙ in_range_lem n r e h)).0

  -- and so is the second
  pub second_id : y < 512
  second_id = id_small y (or_fails (not (is_element_id x)) (not (is_element_id y)) (sym f ∙ in_range_lem n r e h)).1

-- The numbers of create element, and nothing is out of range.
module _ (x k y : ℕ) {r : Bool} (f : r ≡ (not (is_element_id x) || not (is_kind k) || not (is_element_id y)))
    {s : Bool} (n : ℕ) (e : s ≡ (not (eqb n 32768) || r)) (h : s ≡ false) where
  -- the element's id is below 512
  pub element_id : x < 512
  element_id =
      let a : Bool = not (is_element_id x) in
      let c : Bool = not (is_kind k) in
      id_small x (or_fails a c (or_fails (a || c) (not (is_element_id y)) (sym f ∙ in_range_lem n r e h)).0).0

  -- and so is the container's
  pub container_id : y < 512
  container_id = id_small y (or_fails (not (is_element_id x) || not (is_kind k)) (not (is_element_id y)) (sym f ∙ in_range_lem n r e h)).1
