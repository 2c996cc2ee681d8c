-- Held and restricted as they are computed, and as 01 says them: the same.
-- Assumes nothing.
use mathlib.Core.Path.{◌≡◌, refl}
use mathlib.Core.Bool.{Bool, true, false, not, cond, ◌&&◌, ◌||◌}
use mathlib.Core.Logic.{◌⊎◌, inl, inr}
use Prim.Native.Nat.{ℕ}
use borrow.Author.Tests.{eqb-true, eqb-false, eq-eqb, ne_eqb, not-true}
use lib.Dec.{eqb}
use Rattle.model.specs.Lists.{In, any_of, all_of, empty}
use Rattle.model.specs.Policy.{Association, Prohibition, Policy, class, by_user, by_process, by_attribute, disjunctive, has_right, kind_of}
use Rattle.model.specs.Rule.{classes, classes_of, gives, given_in, held_by, held, disjunctive_range, conjunctive_range, in_range, is_subject, restricts, restricted_by, restricted}
use Rattle.model.proofs.Truth.{not_so, some_in, fails_when, false_not, and_cut, and_join, or_cut, or_left, or_right, any_in, any_found, all_in, all_of_lem, those_in, those_pass, in_those, not_empty}
use Rattle.model.specs.Decided.{Told, ClassOf, Given, HeldOver, Range, within_some, outside_some, within_outside_all, Subject, the_process, the_user, an_attribute, Restricts, RestrictedOver}

module _ (W : ℕ → ℕ → Bool) (p : Policy) where
  -- the classes of an element, as computed, are the classes that it is within
  pub class_says : (e c : ℕ) → In c (classes_of (W e) p) → ClassOf (Told W) p e c
  unfolding classes_of
  class_says e c i = record { there = those_in (W e) (classes p) i; within = those_pass (W e) (classes p) i }

  -- and each class that it is within is one of them
  pub class_when : {e c : ℕ} → ClassOf (Told W) p e c → In c (classes_of (W e) p)
  unfolding classes_of
  class_when {e} {c} h = in_those (W e) h.there h.within

  module _ (u r e : ℕ) where
    -- where the test finds an association that gives the right in a class, there is one as 01 says
    pub given_says : (c : ℕ) → given_in (W u) (W e) W p r c ≡ true → Given (Told W) p u r e c
    unfolding given_in gives
    given_says c h =
        let f = any_found (gives (W u) (W e) W r c) p.associations h in
        let a : Association = f.it in
        let i = and_cut (W u a.attribute && has_right a.rights r && W e a.target) (W a.target c) f.is in
        let j = and_cut (W u a.attribute && has_right a.rights r) (W e a.target) i.0 in
        let k = and_cut (W u a.attribute) (has_right a.rights r) j.0 in
        record { by = a; there = f.there; user = k.0; right = k.1; element = j.1; target = i.1 }

    -- and where there is one the test finds it
    pub given_when : {c : ℕ} → Given (Told W) p u r e c → given_in (W u) (W e) W p r c ≡ true
    unfolding given_in gives
    given_when {c} g = any_in (gives (W u) (W e) W r c) g.there (rw (g.user, g.right, g.element, g.target))

    -- a right held, as computed, is held as 01 says
    pub held_says : held W p u r e ≡ true → HeldOver (Told W) p u r e
    unfolding held_by
    held_says h =
        let k = and_cut (not (empty (classes_of (W e) p))) (all_of (given_in (W u) (W e) W p r) (classes_of (W e) p)) h in
        let s = some_in (classes_of (W e) p) k.0 in
        record {
          some_class = s.0;
          its = class_says e s.0 s.1;
          given = λ c i. given_says c (all_in (given_in (W u) (W e) W p r) k.1 (class_when i));
        }

    -- and one held as 01 says is held as computed
    pub held_when : HeldOver (Told W) p u r e → held W p u r e ≡ true
    unfolding held_by
    held_when h =
        rw (not_empty (class_when h.its))
        (all_of_lem (given_in (W u) (W e) W p r) (classes_of (W e) p) (λ c i. given_when (h.given c (class_says e c i))))

  -- the range of a prohibition
  module _ (e : ℕ) (b : Prohibition) where
    range_computed : Bool
    range_computed = cond (eqb b.form disjunctive) (disjunctive_range (W e) b) (conjunctive_range (W e) b)

    disjunctive_says : b.form ≡ disjunctive → disjunctive_range (W e) b ≡ true → Range (Told W) e b
    unfolding disjunctive_range
    disjunctive_says f h = go (or_cut (any_of (W e) b.inclusion) (any_of (λ y. not (W e y)) b.exclusion) h)
      where
        go : (any_of (W e) b.inclusion ≡ true) ⊎ (any_of (λ y. not (W e y)) b.exclusion ≡ true) → Range (Told W) e b
        go (inl k) = let s = any_found (W e) b.inclusion k in within_some f s.there s.is
        go (inr k) = let s = any_found (λ y. not (W e y)) b.exclusion k in outside_some f s.there (false_not (W e s.it) (not-true (W e s.it) s.is))

    conjunctive_says : (b.form ≡ disjunctive → ⊥) → conjunctive_range (W e) b ≡ true → Range (Told W) e b
    unfolding conjunctive_range
    conjunctive_says f h =
        let k = and_cut (all_of (W e) b.inclusion) (all_of (λ y. not (W e y)) b.exclusion) h in
        within_outside_all f (λ y i. all_in (W e) k.0 i) (λ y i. false_not (W e y) (not-true (W e y) (all_in (λ y. not (W e y)) k.1 i)))

    range_says : range_computed ≡ true → Range (Told W) e b
    unfolding range_computed
    range_says h = go (eqb b.form disjunctive) refl h
      where
        go : (t : Bool) → eqb b.form disjunctive ≡ t → cond t (disjunctive_range (W e) b) (conjunctive_range (W e) b) ≡ true → Range (Told W) e b
        go true f h = disjunctive_says (eqb-true b.form disjunctive f) h
        go false f h = conjunctive_says (eqb-false b.form disjunctive f) h

    range_when : Range (Told W) e b → range_computed ≡ true
    unfolding range_computed disjunctive_range conjunctive_range
    range_when (within_some f i k) = rw (eq-eqb b.form disjunctive f) (or_left _ (any_of (λ y. not (W e y)) b.exclusion) (any_in (W e) i k))
    range_when (outside_some {y = y} f i k) =
        rw (eq-eqb b.form disjunctive f) (or_right (any_of (W e) b.inclusion) _ (any_in (λ y. not (W e y)) i (not_so (W e y) (fails_when (W e y) k))))
    range_when (within_outside_all f i k) =
        rw (ne_eqb b.form disjunctive f)
        (and_join _ _ (all_of_lem (W e) b.inclusion i) (all_of_lem (λ y. not (W e y)) b.exclusion (λ y j. not_so (W e y) (fails_when (W e y) (k y j)))))

  -- the subject of a prohibition
  subject_says : (process u : ℕ) (b : Prohibition) → is_subject (W u) process u b ≡ true → Subject (Told W) process u b
  unfolding is_subject
  subject_says process u b h = go (or_cut (prc || usr) att h)
    where
      prc : Bool
      prc = eqb b.sort by_process && eqb b.subject process

      usr : Bool
      usr = eqb b.sort by_user && eqb b.subject u

      att : Bool
      att = eqb b.sort by_attribute && W u b.subject

      one : (prc ≡ true) ⊎ (usr ≡ true) → Subject (Told W) process u b
      one (inl k) = let c = and_cut (eqb b.sort by_process) (eqb b.subject process) k in the_process (eqb-true _ _ c.0) (eqb-true _ _ c.1)
      one (inr k) = let c = and_cut (eqb b.sort by_user) (eqb b.subject u) k in the_user (eqb-true _ _ c.0) (eqb-true _ _ c.1)

      go : ((prc || usr) ≡ true) ⊎ (att ≡ true) → Subject (Told W) process u b
      go (inl k) = one (or_cut prc usr k)
      go (inr k) = let c = and_cut (eqb b.sort by_attribute) (W u b.subject) k in an_attribute (eqb-true _ _ c.0) c.1

  subject_when : (process u : ℕ) (b : Prohibition) → Subject (Told W) process u b → is_subject (W u) process u b ≡ true
  unfolding is_subject
  subject_when process u b (the_process s t) = rw (eq-eqb b.sort by_process s, eq-eqb b.subject process t)
  subject_when process u b (the_user s t) = rw (s, eq-eqb b.subject u t)
  subject_when process u b (an_attribute s t) = rw (s, t)

  module _ (process u r e : ℕ) where
    -- a prohibition that restricts, as computed, restricts as 01 says
    pub restricts_says : (b : Prohibition) → restricts (W u) (W e) p process u r e b ≡ true → Restricts (Told W) p process u r e b
    unfolding restricts in_range range_computed
    restricts_says b h =
        let i = and_cut (has_right b.rights r && in_range (W e) p e b) (is_subject (W u) process u b) h in
        let j = and_cut (has_right b.rights r) (in_range (W e) p e b) i.0 in
        let k = and_cut (not (eqb (kind_of p e) class)) (range_computed e b) j.1 in
        record {
          right = j.0;
          no_class = eqb-false (kind_of p e) class (not-true _ k.0);
          range = range_says e b k.1;
          subject = subject_says process u b i.1;
        }

    -- and one that restricts as 01 says restricts as computed
    pub restricts_when : {b : Prohibition} → Restricts (Told W) p process u r e b → restricts (W u) (W e) p process u r e b ≡ true
    unfolding restricts in_range range_computed
    restricts_when {b} h =
        rw (h.right, ne_eqb (kind_of p e) class h.no_class, range_when e b h.range, subject_when process u b h.subject)

    -- a right restricted, as computed, is restricted as 01 says
    pub restricted_says : restricted W p process u r e ≡ true → RestrictedOver (Told W) p process u r e
    unfolding restricted_by
    restricted_says h =
        let f = any_found (restricts (W u) (W e) p process u r e) p.prohibitions h in
        record { by = f.it; there = f.there; restricts = restricts_says f.it f.is }

    -- and one restricted as 01 says is restricted as computed
    pub restricted_when : RestrictedOver (Told W) p process u r e → restricted W p process u r e ≡ true
    unfolding restricted_by
    restricted_when h = any_in (restricts (W u) (W e) p process u r e) h.there (restricts_when h.restricts)
