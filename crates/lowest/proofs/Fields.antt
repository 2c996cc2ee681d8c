-- Whether an association is before another, and the name of the lower: the attributes decide, then the targets, then the rights.
-- Assumes nothing.
use mathlib.Core.Path.{◌≡◌, refl, sym, ap, ◌∙◌}
use mathlib.Core.Bool.{Bool, true, false, not, cond}
use mathlib.Core.List.{List, ◌∷◌}
use Prim.Native.Nat.{ℕ, zero, suc, ◌+◌, ◌-◌, ◌≤◌, ◌<◌}
use native.Mathlib.Omega.{arith}
use borrow.Author.Tests.{eq-eqb, ne_eqb, le-ltb, not-true, not-false}
use lib.Dec.{eqb, ltb}
use lib.ListN.{get_or}
use Rattle.model.specs.Lists.{before}
use Rattle.model.proofs.Order.{first_lower, before_one}
use Rattle.table.specs.View.{association_at}
use Rattle.lowest.specs.Named.{is_before, is_lower, is_lower_at_target, lower_name, NamesOfFirst}

-- a higher first field is not before a lower one
first_higher : (x y : ℕ) (a b : List ℕ) → y < x → before (x ∷ a) (y ∷ b) ≡ false
unfolding before
first_higher x y a b h =
    let l : y ≤ x = omega arith in
    let d : x ≡ y → ⊥ = λ e. omega arith in
    rw (le-ltb x y l, ne_eqb x y d)

-- where neither first field is lower, the rest decides
rest_decides : (x y : ℕ) (a b : List ℕ) → y ≤ x → x ≤ y → before (x ∷ a) (y ∷ b) ≡ before a b
unfolding before
rest_decides x y a b h k =
    let e : x ≡ y = omega arith in
    rw (le-ltb x y h, eq-eqb x y e)

-- What was read of two associations, field by field, as far as they are equal.
module _ (mem : List ℕ) (i j : ℕ) {a b : ℕ} (ea : a ≡ (association_at mem i).attribute) (eb : b ≡ (association_at mem j).attribute) where
  -- the lower attribute is before
  pub attribute_lower : a < b → true ≡ is_before mem i j
  attribute_lower h = sym (first_lower (association_at mem i).attribute (association_at mem j).attribute _ _ (omega arith))

  -- the higher one is not
  pub attribute_higher : b < a → false ≡ is_before mem i j
  attribute_higher h = sym (first_higher (association_at mem i).attribute (association_at mem j).attribute _ _ (omega arith))

  module _ (l : b ≤ a) (l' : a ≤ b) {s t : ℕ} (es : s ≡ (association_at mem i).target) (et : t ≡ (association_at mem j).target) where
    -- the targets and the rights decide
    attributes_equal : (x y : List ℕ) → before ((association_at mem i).attribute ∷ x) ((association_at mem j).attribute ∷ y) ≡ before x y
    attributes_equal x y = rest_decides (association_at mem i).attribute (association_at mem j).attribute x y (omega arith) (omega arith)

    -- then the lower target is before
    pub target_lower : s < t → true ≡ is_before mem i j
    target_lower h = sym (attributes_equal _ _ ∙ first_lower (association_at mem i).target (association_at mem j).target _ _ (omega arith))

    -- the higher one is not
    pub target_higher : t < s → false ≡ is_before mem i j
    target_higher h = sym (attributes_equal _ _ ∙ first_higher (association_at mem i).target (association_at mem j).target _ _ (omega arith))

    -- then the rights decide
    pub rights_decide : t ≤ s → s ≤ t → {v w : ℕ} → v ≡ (association_at mem i).rights → w ≡ (association_at mem j).rights → ltb v w ≡ is_before mem i j
    rights_decide h k {v} {w} ev ew =
        rw (ev, ew)
        (sym
        (attributes_equal _ _
        ∙ rest_decides (association_at mem i).target (association_at mem j).target _ _ (omega arith) (omega arith)
        ∙ before_one (association_at mem i).rights (association_at mem j).rights))

-- where none is named, association i is lower
pub lower_than_none : (mem : List ℕ) (name i : ℕ) → name ≡ 0 → true ≡ is_lower mem name i
unfolding is_lower
lower_than_none mem name i e = rw e

-- where one is named, the fields decide
pub lower_than_named : (mem : List ℕ) (name i : ℕ) → (name ≡ 0 → ⊥) → {r : Bool} → r ≡ is_before mem i (name - 1) → r ≡ is_lower mem name i
unfolding is_lower
lower_than_named mem zero i d e = absurd (d refl)
lower_than_named mem (suc j) i d e = let q : suc j - 1 ≡ j = omega arith in rw q at e

-- the name stays where association i is not lower
pub name_stays : (mem : List ℕ) (name i : ℕ) {r : Bool} → r ≡ is_lower mem name i → not r ≡ true → name ≡ lower_name mem name i
unfolding lower_name
name_stays mem name i {r} e h = rw (← e, not-true r h)

-- and is that of association i where it is
pub name_next : (mem : List ℕ) (name i : ℕ) {r : Bool} → r ≡ is_lower mem name i → not r ≡ false → i + 1 ≡ lower_name mem name i
unfolding lower_name
name_next mem name i {r} e h = rw (← e, not-false r h) (omega arith)

-- no mark: the name stays
pub no_mark : (mark name lower : ℕ) → mark ≡ 0 → name ≡ cond (eqb mark 0) name lower
no_mark mark name lower e = rw (eq-eqb mark 0 e)

-- a mark: the lower one's
pub some_mark : (mark name : ℕ) {lower r : ℕ} → (mark ≡ 0 → ⊥) → r ≡ lower → r ≡ cond (eqb mark 0) name lower
some_mark mark name d e = rw (ne_eqb mark 0 d) e

-- What is named at the target of association i.
module _ (mem names : List ℕ) (i s : ℕ) (e : s ≡ (association_at mem i).target) where
  -- it is one of the first i
  pub target_few : NamesOfFirst i names → get_or names s 0 ≤ i
  target_few f = f.few s (omega arith)

  -- association i is lower than it, or not
  pub target_decides : {r : Bool} → r ≡ is_lower mem (get_or names s 0) i → r ≡ is_lower_at_target mem i names
  unfolding is_lower_at_target
  target_decides q = q ∙ ap (λ (x : ℕ). is_lower mem (get_or names x 0) i) e
