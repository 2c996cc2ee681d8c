-- The lowest subject through which a right is restricted: each return for one prohibition, and the loop over all of them.
-- Assumes nothing.
use mathlib.Core.Path.{◌≡◌, refl, sym, ap, ap₂, subst, ◌∙◌}
use mathlib.Core.Bool.{Bool, true, false, cond}
use mathlib.Core.List.{List, [], ◌∷◌, map, map-id}
use Prim.Native.Nat.{ℕ, zero, suc, min, ◌+◌, ◌≤◌, ◌<◌}
use native.Mathlib.Omega.{arith}
use native.Mathlib.Decide.{dec_lt}
use borrow.Author.Tests.{eq-eqb, ne_eqb, lt-ltb, le-ltb}
use lib.Dec.{eqb, ltb}
use denote.Param.Members.{Mut}
use Rattle.std.specs.Fn.{Called}
use Rattle.std.specs.Iterator.{Drains, FoldTurn, ReducesItems}
use Rattle.std.specs.List.{FoldsTo, filter, fold, reduce, range_with_len}
use Rattle.std.specs.Prelude.{Option, Some, None}
use Rattle.std.proofs.lemmas.Iterator.{YieldsList, items_from_drains}
use Rattle.model.specs.Lists.{In, first, those, tabulate, least_of}
use Rattle.model.specs.Policy.{Prohibition}
use Rattle.model.specs.Contain.{contained}
use Rattle.model.specs.Rule.{restricts, through}
use Rattle.model.proofs.Truth.{those_in, map_in}
use Rattle.model.proofs.Decisions.Lowest.{least_in}
use Rattle.model.proofs.Decisions.Alike.{AlikeRows, restricts_alike}
use Rattle.table.specs.Layout.{prohibition_count}
use Rattle.table.specs.View.{policy_of, prohibitions_of, prohibition_at}
use Rattle.table.proofs.Tabled.{in_tabulate, tabulate_in}
use Rattle.rule.specs.Sight.{seen}
use Rattle.rule.specs.declared.Asking.{Asking}
use Rattle.held.specs.Lacking.{sight, Rows}
use Rattle.denials.specs.Causes.{restricts_through, lowest_through, as_subject}

-- rows of marks that say what is meant say what chains of assignments say
contained_rows : {mem rows : List ℕ} {q : Asking} → Rows mem rows false q
    → AlikeRows (seen rows false q.by) (contained (policy_of mem) q.user) (seen rows false q.over) (contained (policy_of mem) q.element) (contained (policy_of mem)) (contained (policy_of mem)) (policy_of mem)
unfolding sight
contained_rows w = record {
  attributes = λ a i. w.user a.attribute;
  subjects = λ b i s. w.user b.subject;
  of_class = λ c i. w.element c;
  of_target = λ a i. w.element a.target;
  of_listed = λ b i y j. w.element y;
  target_class = λ a i c j. refl;
}

-- a prohibition restricts by the rows exactly if it does by containment
restricts_contained : {mem rows : List ℕ} {q : Asking} → Rows mem rows false q → (i : ℕ) → i < prohibition_count mem
    → restricts (seen rows false q.by) (seen rows false q.over) (policy_of mem) q.process q.user q.right q.element (prohibition_at mem i)
    ≡ restricts (contained (policy_of mem) q.user) (contained (policy_of mem) q.element) (policy_of mem) q.process q.user q.right q.element (prohibition_at mem i)
unfolding policy_of prohibitions_of
restricts_contained {mem} {rows} {q} w i l =
    restricts_alike (contained_rows w) q.process q.user q.right q.element (prohibition_at mem i) (in_tabulate (prohibition_count mem) (prohibition_at mem) i l)

-- one prohibition that has the sort or not, and restricts or not
module _ {mem rows : List ℕ} {q : Asking} (w : Rows mem rows false q) (s i : ℕ) (l : i < prohibition_count mem) {o : ℕ} (sort : o ≡ (prohibition_at mem i).sort) where
  -- it has another sort
  pub through_other : (o ≡ s → ⊥) → eqb o s ≡ restricts_through (policy_of mem) q s (prohibition_at mem i)
  unfolding restricts_through
  through_other d = rw (ne_eqb o s d, ne_eqb (prohibition_at mem i).sort s (λ e. d (sort ∙ e)))

  -- it has the sort
  pub through_restricts : o ≡ s → {b : Bool} → b ≡ restricts (seen rows false q.by) (seen rows false q.over) (policy_of mem) q.process q.user q.right q.element (prohibition_at mem i)
      → b ≡ restricts_through (policy_of mem) q s (prohibition_at mem i)
  unfolding restricts_through
  through_restricts h is = rw (eq-eqb (prohibition_at mem i).sort s (sym sort ∙ h)) (is ∙ restricts_contained w i l)

-- what is told of those numbers from a on that pass a test is told of those of a list that is told off
module _ {A : Type 0} (t : A → Bool) (g : A → ℕ) where
  told_range : (a n : ℕ) (f h : ℕ → A) → ((i : ℕ) → f i ≡ h (a + i)) → map (λ i. g (h i)) (filter (λ i. t (h i)) (range_with_len a n)) ≡ map g (those t (tabulate n f))
  unfolding those tabulate
  told_range a zero f h e = refl
  told_range a (suc n) f h e =
      let first : h a ≡ f 0 = (let z : a ≡ a + 0 = omega arith in ap h z) ∙ sym (e 0) in
      let rest : (i : ℕ) → f (suc i) ≡ h (a + 1 + i) = λ i. let z : a + suc i ≡ a + 1 + i = omega arith in e (suc i) ∙ ap h z in
      rw (ap t first) (go (t (f 0)) _ _ (ap g first) (told_range (a + 1) n (λ i. f (suc i)) h rest))
    where
      go : (b : Bool) (l : List ℕ) (m : List A) → g (h a) ≡ g (f 0) → map (λ i. g (h i)) l ≡ map g m → map (λ i. g (h i)) (cond b (a ∷ l) l) ≡ map g (cond b (f 0 ∷ m) m)
      go true l m x k = ap₂ ◌∷◌ x k
      go false l m x k = k

-- calls that leave the callee as it was, and answer by h
module _ {F : Type 0} (g : Mut F (ℕ × (ℕ × Unit {0})) ℕ) (h : ℕ → ℕ → ℕ) {f : F} (by_h : (a x b : ℕ) (q : F) → Called g f (a, (x, tt)) b q → (q ≡ f) × (b ≡ h a x)) where
  -- one call for each of some numbers, each on what the one before it answered
  calls_fold : (l : List ℕ) (p q : F × ℕ) → p.0 ≡ f → FoldsTo {P = F × ℕ} (FoldTurn g) p l q → q.1 ≡ fold h p.1 l
  calls_fold [] p q e c = ap (λ (w : F × ℕ). w.1) (sym c)
  calls_fold (x ∷ l) p q e c =
      let m = by_h p.1 x c.0.1 c.0.0 (subst (λ w. Called g w (p.1, (x, tt)) c.0.1 c.0.0) e c.1) in
      calls_fold l c.0 q m.0 c.2 ∙ ap (λ b. fold h b l) m.1

  -- the answer of `reduce`, which calls it, over the numbers that a chain yields
  module _ {S : Type 0} {steps : S → Option ℕ → S → Type 0} {s : S} {l : List ℕ} (road : YieldsList steps (λ x. x) s l) where
    all_drained : (m : List ℕ) → Drains steps s m → m ≡ l
    all_drained m d = sym (map-id m) ∙ items_from_drains m (d.1.0, d.1.1, λ _. (d.0, d.1.2)) road

    pub calls_reduce : (r : Option ℕ) → ReducesItems steps g s f r → r ≡ reduce h l
    calls_reduce None d = ap (reduce h) (all_drained [] d)
    calls_reduce (Some y) d = ap Some (calls_fold d.1 (f, d.0) (d.2, y) refl d.4) ∙ ap (reduce h) (all_drained (d.0 ∷ d.1) d.3)

-- the least of some numbers, told from the first on
fold_least : (x : ℕ) (l : List ℕ) → least_of x l ≡ fold min x l
unfolding least_of
fold_least x [] = refl
fold_least x (y ∷ l) = ap (λ (z : ℕ). least_of z l) lower ∙ fold_least (min x y) l
  where
    lower : cond (ltb y x) y x ≡ min x y
    lower = elim (dec_lt y x) [
      | yes k ↦ rw (lt-ltb y x k) (omega arith)
      | no k ↦ let m : x ≤ y = omega arith in rw (le-ltb y x m) (omega arith)
    ]

-- of numbers below 512, it is none where there are none
reduce_least : (l : List ℕ) → ((m : ℕ) → In m l → m < 512) → reduce min l ≡ as_subject (least_of 512 l)
unfolding least_of
reduce_least [] h = refl
reduce_least (x ∷ l) h =
    let low : least_of x l < 512 = h (least_of x l) (least_in x l) in
    rw (lt-ltb x 512 (h x first), ne_eqb (least_of x l) 512 (λ e. omega (arith, e, low))) (ap Some (sym (fold_least x l)))

-- the lowest subject of all prohibitions that restrict through the sort
pub lowest_told : (mem : List ℕ) (q : Asking) (s : ℕ) {n : ℕ} → n ≡ prohibition_count mem
    → reduce min (map (λ i. (prohibition_at mem i).subject) (filter (λ i. restricts_through (policy_of mem) q s (prohibition_at mem i)) (range_with_len 0 n)))
    ≡ as_subject (lowest_through (policy_of mem) q s)
unfolding lowest_through restricts_through through policy_of prohibitions_of
lowest_told mem q s {n} e =
    ap (reduce min) (told_range through_sort (λ (b : Prohibition). b.subject) 0 n (prohibition_at mem) (prohibition_at mem) (λ i. ap (prohibition_at mem) (let z : i ≡ 0 + i = omega arith in z)))
    ∙ (rw e (reduce_least (map (λ (b : Prohibition). b.subject) (those through_sort (tabulate (prohibition_count mem) (prohibition_at mem)))) small))
  where
    through_sort : Prohibition → Bool
    through_sort = restricts_through (policy_of mem) q s

    small : (m : ℕ) → In m (map (λ (b : Prohibition). b.subject) (those through_sort (tabulate (prohibition_count mem) (prohibition_at mem)))) → m < 512
    small m i =
        let f = map_in (λ (b : Prohibition). b.subject) _ i in
        let w = tabulate_in (prohibition_count mem) (prohibition_at mem) (those_in _ _ f.there) in
        let z = ap (λ (b : Prohibition). b.subject) w.is ∙ f.is in
        omega (arith, z)
