-- The classes of an element by their numbers, and what lacks for a right, told from each class.
-- Assumes nothing.
use mathlib.Core.Path.{◌≡◌, refl, sym, ap, subst, ◌∙◌}
use mathlib.Core.Bool.{Bool, true, false, not, ◌&&◌}
use mathlib.Core.List.{List, [], ◌∷◌}
use Prim.Native.Nat.{ℕ, suc, ◌≤◌, ◌<◌}
use native.Mathlib.Omega.{arith}
use native.Mathlib.Decide.{dec_lt}
use borrow.Author.Tests.{eqb-true, eq-eqb, not-true}
use lib.Dec.{eqb}
use Rattle.model.specs.Lists.{In, first, all_of, those, empty, least_of}
use Rattle.model.specs.Policy.{Element, Policy, class, kind_of}
use Rattle.model.specs.Rule.{classes, classes_of, given_in, held_by}
use Rattle.model.specs.Explain.{least_or0}
use Rattle.model.proofs.Truth.{clash, and_cut, and_right, and_join, fails_when, not_so, none_in, not_empty, all_in, all_of_lem, those_in, those_pass, in_those, in_map, map_in}
use Rattle.model.proofs.Chains.{known}
use Rattle.model.proofs.Decisions.Lowest.{least_in, least_least}
use Rattle.table.specs.Layout.{kind_word}
use Rattle.table.specs.View.{policy_of, elements_of}
use Rattle.table.proofs.Tabled.{tabulate_in}
use Rattle.table.proofs.ById.{kind_is}
use Rattle.rule.specs.Parts.{class_of}
use Rattle.held.specs.Lacking.{lack_of}

-- c is an id, and its kind is that of classes
record ClassId (mem : List ℕ) (c : ℕ) : Type 0 where
  low : 1 ≤ c
  high : c < 512
  kind : kind_of (policy_of mem) c ≡ class

-- each class is one
class_id : (mem : List ℕ) {c : ℕ} → In c (classes (policy_of mem)) → ClassId mem c
unfolding classes policy_of elements_of
class_id mem {c} i =
    let m = map_in (λ (e : Element). e.id) _ i in
    let w = tabulate_in 511 (λ i. record { id = suc i; kind = kind_word mem (suc i) }) (those_in _ _ (those_in _ _ m.there)) in
    let q : suc w.at ≡ c = ap (λ (e : Element). e.id) w.is ∙ m.is in
    let k : kind_word mem (suc w.at) ≡ class = ap (λ (e : Element). e.kind) w.is ∙ eqb-true m.from.kind class (those_pass _ _ m.there) in
    record {
      low = omega arith;
      high = omega (arith, w.early);
      kind = subst (λ (x : ℕ). kind_of (policy_of mem) x ≡ class) q (sym (kind_is mem (suc w.at) (omega arith) (omega (arith, w.early)) (omega arith)) ∙ k);
    }

-- an element whose kind is that of classes is one of them
kind_class : (p : Policy) (c : ℕ) → kind_of p c ≡ class → In c (classes p)
unfolding classes kind_of
kind_class p c k =
    let n = known p.elements c (λ z. omega (arith, k)) in
    subst (λ (x : ℕ). In x (classes p)) n.is
    (in_map (λ (e : Element). e.id) (in_those (λ (e : Element). eqb e.kind class) n.there (eq-eqb n.it.kind class (n.its_kind ∙ k))))

module _ (E : ℕ → Bool) (mem : List ℕ) where
  -- each class of the element is an id, from 1 on and below 512
  pub class_low : {c : ℕ} → In c (classes_of E (policy_of mem)) → 1 ≤ c
  unfolding classes_of
  class_low i = (class_id mem (those_in E (classes (policy_of mem)) i)).low

  pub class_high : {c : ℕ} → In c (classes_of E (policy_of mem)) → c < 512
  unfolding classes_of
  class_high i = (class_id mem (those_in E (classes (policy_of mem)) i)).high

  -- the test passes for each class of the element
  pub class_passes : {c : ℕ} → In c (classes_of E (policy_of mem)) → class_of E (policy_of mem) c ≡ true
  unfolding classes_of class_of
  class_passes {c} i =
      and_join (eqb (kind_of (policy_of mem) c) class) (E c)
      (eq-eqb (kind_of (policy_of mem) c) class (class_id mem (those_in E (classes (policy_of mem)) i)).kind) (those_pass E (classes (policy_of mem)) i)

  -- and for no other
  pub passes_class : {c : ℕ} → class_of E (policy_of mem) c ≡ true → In c (classes_of E (policy_of mem))
  unfolding classes_of class_of
  passes_class {c} e =
      let k = and_cut (eqb (kind_of (policy_of mem) c) class) (E c) e in
      in_those E (kind_class (policy_of mem) c (eqb-true (kind_of (policy_of mem) c) class k.0)) k.1

-- a list in which nothing stands
none_list : {A : Type 0} (l : List A) → ((a : A) → In a l → ⊥) → l ≡ []
none_list [] h = refl
none_list (a ∷ l) h = absurd (h a first)

-- the least of a list, of which none of it is below
least_is : (l : List ℕ) {n : ℕ} → In n l → ((m : ℕ) → In m l → n ≤ m) → least_or0 l ≡ n
least_is [] i h = absurd (none_in i)
least_is (x ∷ l) {n} i h = omega (arith, least_least x l i, h (least_of x l) (least_in x l))

-- What lacks for a right, where it is known of each class whether the right is given in it.
module _ (U E : ℕ → Bool) (T : ℕ → ℕ → Bool) (p : Policy) (r : ℕ) where
  -- there is no class
  pub lack_no_class : ((d : ℕ) → In d (classes_of E p) → ⊥) → lack_of U E T p r ≡ 0
  unfolding lack_of held_by empty those
  lack_no_class h = rw (none_list (classes_of E p) h)

  -- there is a class, and the right is given in each
  pub lack_nothing : {d : ℕ} → In d (classes_of E p) → ((c : ℕ) → In c (classes_of E p) → given_in U E T p r c ≡ true) → lack_of U E T p r ≡ 512
  unfolding lack_of held_by
  lack_nothing i h = rw (not_empty i, all_of_lem (given_in U E T p r) (classes_of E p) h)

  -- the right is given in each class below c, and not in c
  pub lack_lowest : {c : ℕ} → In c (classes_of E p) → given_in U E T p r c ≡ false
      → ((d : ℕ) → d < c → In d (classes_of E p) → given_in U E T p r d ≡ true) → lack_of U E T p r ≡ c
  unfolding lack_of held_by
  lack_lowest {c} i n h = rw not_held (least_is (those lacks (classes_of E p)) (in_those lacks i (not_so (given_in U E T p r c) n)) no_less)
    where
      lacks : ℕ → Bool
      lacks d = not (given_in U E T p r d)

      not_held : (not (empty (classes_of E p)) && all_of (given_in U E T p r) (classes_of E p)) ≡ false
      not_held = fails_when _ (λ t. clash (all_in (given_in U E T p r) (and_right (not (empty (classes_of E p))) (all_of (given_in U E T p r) (classes_of E p)) t) i) n)

      no_less : (m : ℕ) → In m (those lacks (classes_of E p)) → c ≤ m
      no_less m j = elim (dec_lt m c) [
        | yes b ↦ absurd (clash (h m b (those_in lacks (classes_of E p) j)) (not-true (given_in U E T p r m) (those_pass lacks (classes_of E p) j)))
        | no b ↦ omega arith
      ]
