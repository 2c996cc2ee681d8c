-- The associations taken into account one after another, in all classes at once.
-- Assumes nothing.
use mathlib.Core.Path.{◌≡◌, refl, sym, ◌∙◌}
use mathlib.Core.Bool.{Bool, true, false, not, ◌&&◌, and-false}
use mathlib.Core.List.{List}
use Prim.Native.Nat.{ℕ, zero, suc, ◌+◌, ◌/◌, ◌^◌, ◌≤◌, ◌<◌}
use native.Mathlib.Nat.{div-eq_of_lt}
use native.Mathlib.Omega.{arith}
use borrow.Author.Tests.{not-true, not-false}
use lib.ListN.{length, get_or, replicate, length-replicate, get_or-replicate}
use lib.Pow.{pow_pos}
use Rattle.model.specs.Lists.{In, tabulate}
use Rattle.model.specs.Policy.{Association, has_right}
use Rattle.model.specs.Contain.{contained}
use Rattle.model.specs.Rule.{gives}
use Rattle.model.proofs.Truth.{clash, and_cut, and_join, Tested, passes, fails, tested, those_in, those_pass, in_those}
use Rattle.model.proofs.Contained.{within_trans, within_says, within_when}
use Rattle.table.specs.Layout.{association_count}
use Rattle.table.specs.View.{policy_of, association_at}
use Rattle.rule.specs.declared.Asking.{Asking}
use Rattle.rule.specs.Sight.{seen}
use Rattle.rule.specs.Parts.{offers}
use Rattle.held.specs.Lacking.{sight, Rows}
use Rattle.lowest.specs.Named.{named, is_before, is_lower, is_lower_at_target, LoweredAbove, authorizing, LowestOfFirst}
use Rattle.lowest.proofs.Naming.{LowestNamed, named_none, named_still, named_kept, named_lower, named_far}

-- the association gives the right in class c
abbrev pub gives_in : (mem : List ℕ) (q : Asking) (c : ℕ) → Association → Bool
gives_in mem q c = gives (contained (policy_of mem) q.user) (contained (policy_of mem) q.element) (contained (policy_of mem)) q.right c

-- the association has the user within its attribute, the right in its set, and the element within its target
abbrev offers_to : (mem : List ℕ) (q : Asking) → Association → Bool
offers_to mem q = offers (contained (policy_of mem) q.user) (contained (policy_of mem) q.element) q.right

-- what is offered is given where the target is within the class
gives_is : (mem : List ℕ) (q : Asking) (c : ℕ) (a : Association) → gives_in mem q c a ≡ (offers_to mem q a && contained (policy_of mem) a.target c)
unfolding gives offers
gives_is mem q c a = refl

-- zeros have no right in their set
pub zeros_give_none : (mem : List ℕ) (q : Asking) (c : ℕ) → gives_in mem q c (named mem 0) ≡ false
unfolding gives has_right
zeros_give_none mem q c =
    let e : 0 / 2 ^ q.right ≡ 0 = div-eq_of_lt (pow_pos q.right) in
    rw (e, and-false (contained (policy_of mem) q.user 0))

-- containment is passed on
contained_trans : (mem : List ℕ) (x y z : ℕ) → contained (policy_of mem) x y ≡ true → contained (policy_of mem) y z ≡ true → contained (policy_of mem) x z ≡ true
contained_trans mem x y z e f =
    within_when (policy_of mem).assignments (within_trans (within_says (policy_of mem).assignments e) (within_says (policy_of mem).assignments f))

-- what the rows say is offered is offered
offered_by_rows : {mem rows : List ℕ} {q : Asking} → Rows mem rows false q → (a : Association)
    → offers (seen rows false q.by) (seen rows false q.over) q.right a ≡ offers_to mem q a
unfolding offers sight
offered_by_rows t a = rw (t.user a.attribute, t.element a.target)

-- what one class names
pub each_class : {mem : List ℕ} {q : Asking} {i : ℕ} {names : List ℕ} → LowestOfFirst mem q i names → (c : ℕ) → c < 512
    → LowestNamed mem (gives_in mem q c) i (get_or names c 0)
each_class l c h = record { few = l.few c h; is = l.is c h; none = l.none c h }

-- so it is in all classes where it is in each
all_classes : {mem : List ℕ} {q : Asking} {i : ℕ} {names : List ℕ} → length names ≡ 512
    → ((c : ℕ) → c < 512 → LowestNamed mem (gives_in mem q c) i (get_or names c 0)) → LowestOfFirst mem q i names
all_classes e k = record { size = e; few = λ c h. (k c h).few; is = λ c h. (k c h).is; none = λ c h. (k c h).none }

-- one is named that association i is not before
record Named (mem : List ℕ) (name i : ℕ) : Type 0 where
  at : ℕ
  is : name ≡ suc at
  not_before : is_before mem i at ≡ false

-- it is one where association i is not lower
not_lower : (mem : List ℕ) (name i : ℕ) → is_lower mem name i ≡ false → Named mem name i
unfolding is_lower
not_lower mem zero i e = absurd (clash refl e)
not_lower mem (suc j) i e = record { at = j; is = refl; not_before = e }

module _ {mem : List ℕ} {q : Asking} {i : ℕ} {names : List ℕ} (l : LowestOfFirst mem q i names) where
  -- an association that offers nothing changes nothing
  none_offered : offers_to mem q (association_at mem i) ≡ false → LowestOfFirst mem q (i + 1) names
  none_offered e = all_classes l.size (λ c h. named_still (each_class l c h) (gives_is mem q c (association_at mem i) ∙ rest c))
    where
      rest : (c : ℕ) → (offers_to mem q (association_at mem i) && contained (policy_of mem) (association_at mem i).target c) ≡ false
      rest c = rw e

  module _ (o : offers_to mem q (association_at mem i) ≡ true) where
    -- what is offered is given in class c exactly if the target is within it
    given_where : (c : ℕ) {t : Bool} → contained (policy_of mem) (association_at mem i).target c ≡ t → gives_in mem q c (association_at mem i) ≡ t
    given_where c e = gives_is mem q c (association_at mem i) ∙ (rw o e)

    -- the lower one is named in each class that the target is within
    all_lowered : {names' : List ℕ} → LoweredAbove mem i names names' → LowestOfFirst mem q (i + 1) names'
    all_lowered {names'} w = all_classes w.size (λ c h. go c h (tested (contained (policy_of mem) (association_at mem i).target c)))
      where
        go : (c : ℕ) → c < 512 → Tested (contained (policy_of mem) (association_at mem i).target c) → LowestNamed mem (gives_in mem q c) (i + 1) (get_or names' c 0)
        go c h (passes e) = rw (w.is c h, e) (named_lower (each_class l c h) (zeros_give_none mem q c) (given_where c e))
        go c h (fails e) = rw (w.is c h, e) (named_still (each_class l c h) (given_where c e))

    -- what is named at the target is given in each class that the target is within: where association i is not lower, nothing changes
    all_kept : is_lower mem (get_or names (association_at mem i).target 0) i ≡ false → LowestOfFirst mem q (i + 1) names
    all_kept b = all_classes l.size (λ c h. go c h (tested (contained (policy_of mem) (association_at mem i).target c)))
      where
        target : ℕ
        target = (association_at mem i).target

        n : Named mem (get_or names target 0) i
        n = not_lower mem (get_or names target 0) i b

        lower : Association
        lower = association_at mem n.at

        there : In lower (authorizing mem q i target)
        there = named_far (each_class l target (omega arith)) n.at n.is

        given : (offers_to mem q lower ≡ true) × (contained (policy_of mem) lower.target target ≡ true)
        given = and_cut (offers_to mem q lower) (contained (policy_of mem) lower.target target)
            (sym (gives_is mem q target lower) ∙ those_pass (gives_in mem q target) (tabulate i (association_at mem)) there)

        above : (c : ℕ) → contained (policy_of mem) target c ≡ true → In lower (authorizing mem q i c)
        above c e = in_those (gives_in mem q c) (those_in (gives_in mem q target) (tabulate i (association_at mem)) there)
            (gives_is mem q c lower ∙ and_join (offers_to mem q lower) (contained (policy_of mem) lower.target c) given.0 (contained_trans mem lower.target target c given.1 e))

        go : (c : ℕ) → c < 512 → Tested (contained (policy_of mem) target c) → LowestNamed mem (gives_in mem q c) (i + 1) (get_or names c 0)
        go c h (passes e) = named_kept (each_class l c h) (given_where c e) lower (above c e) n.not_before
        go c h (fails e) = named_still (each_class l c h) (given_where c e)

-- The returns, by what the rows say is offered.
module _ {mem rows : List ℕ} {q : Asking} {i : ℕ} {names : List ℕ} (l : LowestOfFirst mem q i names) (t : Rows mem rows false q)
    {b : Bool} (e : b ≡ offers (seen rows false q.by) (seen rows false q.over) q.right (association_at mem i)) where
  -- association i offers nothing
  pub taken_none : not b ≡ true → LowestOfFirst mem q (i + 1) names
  taken_none h = none_offered l (sym (offered_by_rows t (association_at mem i)) ∙ sym e ∙ not-true b h)

  module _ (h : not b ≡ false) where
    -- association i offers the right
    offered : offers_to mem q (association_at mem i) ≡ true
    offered = sym (offered_by_rows t (association_at mem i)) ∙ sym e ∙ not-false b h

    -- it is not lower than what is named at its target
    pub taken_kept : {r : Bool} → r ≡ is_lower_at_target mem i names → not r ≡ true → LowestOfFirst mem q (i + 1) names
    unfolding is_lower_at_target
    taken_kept {r} er n = all_kept l offered (sym er ∙ not-true r n)

    -- it is named where it is lower
    pub taken_lowered : {names' : List ℕ} → LoweredAbove mem i names names' → LowestOfFirst mem q (i + 1) names'
    taken_lowered w = all_lowered l offered w

-- at first no class names any
pub taken_start : (mem : List ℕ) (q : Asking) → LowestOfFirst mem q 0 (replicate 512 0)
taken_start mem q =
    all_classes (length-replicate {A = ℕ} 512 0) (λ c h. let e : ◌≡◌ {A = ℕ} (get_or (replicate 512 0) c 0) 0 = get_or-replicate {A = ℕ} 512 c 0 0 h in rw e (named_none mem (gives_in mem q c)))

-- at the end all associations are taken into account
pub taken_all : {mem : List ℕ} {q : Asking} {i n : ℕ} {names : List ℕ} → LowestOfFirst mem q i names → i ≤ n → n ≤ i → n ≡ association_count mem
    → LowestOfFirst mem q (association_count mem) names
taken_all {mem} {i = i} l h k e = let s : association_count mem ≡ i = omega arith in rw s l
