-- The decision as it is computed, and as 01 says it: the same; and an element in no class is denied.
-- Assumes nothing.
use mathlib.Core.Path.{◌≡◌, refl, sym, ap}
use mathlib.Core.Bool.{Bool, true, false, not, cond}
use mathlib.Core.List.{List, [], ◌∷◌, ◌++◌}
use Prim.Native.Nat.{ℕ, suc, ◌+◌}
use native.Mathlib.Nat.{add-zero, add-suc, suc-add}
use native.Mathlib.Omega.{arith}
use borrow.Author.Tests.{not-true}
use lib.ListN.{length, take}
use Rattle.model.specs.Lists.{In, first, later, empty}
use Rattle.model.specs.Policy.{Policy, user_of}
use Rattle.model.specs.Rule.{classes_of, held_by, held, restricted}
use Rattle.model.specs.Request.{Request, Alternative, Asked, asked_of, arguments_of, kinds_of, alternatives_of, grant, deny, permitted, satisfied, lowest_satisfied, verdict}
use Rattle.model.proofs.Truth.{fails_when, not_so, none_in, each_of, clash, and_cut, all_in, all_of_lem}
use Rattle.model.specs.Decided.{Told, ClassOf, Permitted, Satisfied, LowestFrom, Lowest, AsksUnclassed}
use Rattle.model.proofs.Decisions.Table.{asks_each}
use Rattle.model.proofs.Decisions.Agree.{held_says, held_when, restricted_says, restricted_when}

-- a verdict is a grant or a deny, not both
same_number : {j k : ℕ} → grant j ≡ grant k → k ≡ j
same_number e = cc

not_both : {k : ℕ} → grant k ≡ deny → ⊥
not_both e = let z : ◌≡◌ {A = ℕ} 0 1 = cc in omega arith

module _ (W : ℕ → ℕ → Bool) (p : Policy) where
  -- over an element in no class nothing is held
  pub no_class_not_held : (u r e : ℕ) → classes_of (W e) p ≡ [] → held W p u r e ≡ false
  unfolding held_by empty
  no_class_not_held u r e h = rw h

  module _ (q : Request) where
    -- a right permitted, as computed, is held and not restricted
    pub permitted_says : (a : Asked) → permitted W p q a ≡ true → Permitted (Told W) p q a
    unfolding permitted
    permitted_says a h =
        let u : ℕ = user_of p q.process in
        let k = and_cut (held W p u a.right a.element) (not (restricted W p q.process u a.right a.element)) h in
        record {
          held = held_says W p u a.right a.element k.0;
          free = λ b. clash (restricted_when W p q.process u a.right a.element b) (not-true _ k.1);
        }

    -- and a right held and not restricted is permitted
    pub permitted_when : {a : Asked} → Permitted (Told W) p q a → permitted W p q a ≡ true
    unfolding permitted
    permitted_when {a} h =
        let u : ℕ = user_of p q.process in
        rw (held_when W p u a.right a.element h.held)
        (not_so _ (fails_when _ (λ k. h.free (restricted_says W p q.process u a.right a.element k))))

    -- of an alternative satisfied, as computed, each right asked is permitted
    pub satisfied_says : (alternative : Alternative) → satisfied W p q alternative ≡ true → Satisfied (Told W) p q alternative
    unfolding satisfied
    satisfied_says alternative h a i = permitted_says a (all_in (permitted W p q) h i)

    -- and an alternative each of whose rights asked is permitted is satisfied
    pub satisfied_when : (alternative : Alternative) → Satisfied (Told W) p q alternative → satisfied W p q alternative ≡ true
    unfolding satisfied
    satisfied_when alternative h = all_of_lem (permitted W p q) (asked_of alternative q) (λ a i. permitted_when (h a i))

    unsatisfied : (alternative : Alternative) → satisfied W p q alternative ≡ false → Satisfied (Told W) p q alternative → ⊥
    unsatisfied alternative h s = clash (satisfied_when alternative s) h

    lowest_says : (j : ℕ) (l : List Alternative) {k : ℕ} → lowest_satisfied W p q j l ≡ grant k → LowestFrom (Told W) p q j l k
    unfolding lowest_satisfied
    lowest_says j [] h = absurd (not_both (sym h))
    lowest_says j (a ∷ l) {k} h = go (satisfied W p q a) refl h (lowest_says (suc j) l)
      where
        go : (t : Bool) → satisfied W p q a ≡ t → cond t (grant j) (lowest_satisfied W p q (suc j) l) ≡ grant k
            → (lowest_satisfied W p q (suc j) l ≡ grant k → LowestFrom (Told W) p q (suc j) l k) → LowestFrom (Told W) p q j (a ∷ l) k
        go true t h more =
            let e : k ≡ j = same_number h in
            record { front = []; it = a; behind = l; parts = refl; place = omega arith; satisfied = satisfied_says a t; none = λ b i. absurd (none_in i) }
        go false t h more =
            let m = more h in
            record {
              front = a ∷ m.front;
              it = m.it;
              behind = m.behind;
              parts = ap {B = List Alternative} (λ r. a ∷ r) m.parts;
              place = omega (arith, m.place);
              satisfied = m.satisfied;
              none = each_of (λ b. Satisfied (Told W) p q b → ⊥) (unsatisfied a t) m.none;
            }

    -- the first that is satisfied is found, whatever stands before it
    lowest_when : (j : ℕ) (front : List Alternative) (it : Alternative) (behind : List Alternative)
        → Satisfied (Told W) p q it → ((a : Alternative) → In a front → Satisfied (Told W) p q a → ⊥)
        → lowest_satisfied W p q j (front ++ it ∷ behind) ≡ grant (j + length front)
    unfolding lowest_satisfied
    lowest_when j [] it behind s n = rw (satisfied_when it s, add-zero j)
    lowest_when j (a ∷ l) it behind s n =
        rw (
          fails_when (satisfied W p q a) (λ k. n a first (satisfied_says a k)),
          lowest_when (suc j) l it behind s (λ b i. n b (later i)),
          suc-add j (length l),
          add-suc j (length l),
        )

    none_says : (j : ℕ) (l : List Alternative) → lowest_satisfied W p q j l ≡ deny → (a : Alternative) → In a l → Satisfied (Told W) p q a → ⊥
    unfolding lowest_satisfied
    none_says j [] h = λ a i. absurd (none_in i)
    none_says j (b ∷ l) h = go (satisfied W p q b) refl h (none_says (suc j) l)
      where
        go : (t : Bool) → satisfied W p q b ≡ t → cond t (grant j) (lowest_satisfied W p q (suc j) l) ≡ deny
            → (lowest_satisfied W p q (suc j) l ≡ deny → (a : Alternative) → In a l → Satisfied (Told W) p q a → ⊥)
            → (a : Alternative) → In a (b ∷ l) → Satisfied (Told W) p q a → ⊥
        go true t h more = absurd (not_both h)
        go false t h more = each_of (λ a. Satisfied (Told W) p q a → ⊥) (unsatisfied b t) (more h)

    none_when : (j : ℕ) (l : List Alternative) → ((a : Alternative) → In a l → Satisfied (Told W) p q a → ⊥) → lowest_satisfied W p q j l ≡ deny
    unfolding lowest_satisfied
    none_when j [] n = refl
    none_when j (a ∷ l) n = rw (fails_when (satisfied W p q a) (λ k. n a first (satisfied_says a k))) (none_when (suc j) l (λ b i. n b (later i)))

    -- granted with k: the k-th alternative is the first that is satisfied
    pub grant_says : {k : ℕ} → verdict W p q ≡ grant k → Lowest (Told W) p q k
    unfolding verdict
    grant_says h = lowest_says 1 (alternatives_of q) h

    -- and where the k-th alternative is the first that is satisfied, granted with k
    pub grant_when : {k : ℕ} → Lowest (Told W) p q k → verdict W p q ≡ grant k
    unfolding verdict
    grant_when h = rw (h.parts, h.place) (lowest_when 1 h.front h.it h.behind h.satisfied h.none)

    -- denied: no alternative is satisfied
    pub deny_says : verdict W p q ≡ deny → (a : Alternative) → In a (alternatives_of q) → Satisfied (Told W) p q a → ⊥
    unfolding verdict
    deny_says h = none_says 1 (alternatives_of q) h

    -- and where no alternative is satisfied, denied
    pub deny_when : ((a : Alternative) → In a (alternatives_of q) → Satisfied (Told W) p q a → ⊥) → verdict W p q ≡ deny
    unfolding verdict
    deny_when n = none_when 1 (alternatives_of q) n

    -- "an element in no class": a request each of whose alternatives asks a right over such an element is denied
    pub no_class_denied : ((a : Alternative) → In a (alternatives_of q) → AsksUnclassed (Told W) p q a) → verdict W p q ≡ deny
    no_class_denied h = deny_when (λ a i s. let n = h a i in let f = (s n.it n.there).held in n.none f.some_class f.its)

    -- "A table with an element in no class .. denies that element": a request that uses such an element is denied
    pub unclassed_denied : {e : ℕ} → In e (take (length (kinds_of q)) (arguments_of q)) → ((c : ℕ) → ClassOf (Told W) p e c → ⊥) → verdict W p q ≡ deny
    unclassed_denied i h = no_class_denied (λ a j. let m = asks_each q j i in record { it = m.it; there = m.there; none = rw m.is h })
