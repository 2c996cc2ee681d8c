-- Rows that say what is meant: what they tell of a right is what the containment tells.
-- Assumes nothing.
use mathlib.Core.Path.{◌≡◌, refl, sym, ap, subst, ◌∙◌}
use mathlib.Core.Bool.{Bool, true, false, not, cond}
use mathlib.Core.List.{List, [], ◌∷◌}
use Prim.Native.Nat.{ℕ, ◌<◌}
use native.Mathlib.Omega.{arith}
use borrow.Author.Tests.{eqb-true, eqb-false}
use lib.Dec.{eqb}
use lib.ListN.{length}
use Rattle.model.specs.Lists.{In, those, least_of}
use Rattle.model.specs.Policy.{Policy}
use Rattle.model.specs.Contain.{contained}
use Rattle.model.specs.Index.{bit_at}
use Rattle.model.specs.Rule.{classes, classes_of, given_in, held_by, held, restricted, restricted_by}
use Rattle.model.specs.Explain.{least_or0}
use Rattle.model.proofs.Truth.{clash, fails_when, Tested, passes, fails, tested, those_alike, those_in}
use Rattle.model.proofs.Decisions.Alike.{AlikeRows, classes_alike, given_alike, held_alike, restricted_alike}
use Rattle.model.proofs.Decisions.Lowest.{least_in}
use Rattle.table.specs.View.{policy_of}
use Rattle.rule.specs.Sight.{seen}
use Rattle.rule.specs.declared.Asking.{Asking}
use Rattle.held.specs.declared.Holding.{Holding}
use Rattle.held.specs.declared.Holding.TheVariants.{Held, NoClass, LackedIn}
use Rattle.held.specs.Lacking.{lack_of, lack_by, as_holding, sight, Rows, permits}
use Rattle.held.proofs.Classes.{class_high}

-- rows that say the same lack the same
pub lack_alike : {U U' E E' : ℕ → Bool} {T T' : ℕ → ℕ → Bool} {p : Policy} → AlikeRows U U' E E' T T' p → (r : ℕ) → lack_of U E T p r ≡ lack_of U' E' T' p r
unfolding lack_of classes_of
lack_alike {U} {U'} {E} {E'} {T} {T'} {p} h r = rw (
  held_alike h r,
  classes_alike h,
  those_alike {f = λ c. not (given_in U E T p r c)} {g = λ c. not (given_in U' E' T' p r c)} (classes_of E' p) (λ c j. ap not (given_alike h r c (those_in E' (classes p) j))),
)

-- rows that say what is meant, and a containment that is the one meant, say the same wherever the rule looks
pub sighted : {mem rows : List ℕ} {indexed : Bool} {q : Asking} → Rows mem rows indexed q → (T : ℕ → ℕ → Bool) → ((x y : ℕ) → T x y ≡ sight mem rows indexed x y)
    → AlikeRows (seen rows indexed q.by) (sight mem rows indexed q.user) (seen rows indexed q.over) (sight mem rows indexed q.element) T (sight mem rows indexed) (policy_of mem)
sighted w T t = record {
  attributes = λ a i. w.user a.attribute;
  subjects = λ b i s. w.user b.subject;
  of_class = λ c i. w.element c;
  of_target = λ a i. w.element a.target;
  of_listed = λ b i y j. w.element y;
  target_class = λ a i c j. t a.target c;
}

-- the rows of an index are all there
pub rows_whole : {mem rows : List ℕ} {indexed : Bool} {q : Asking} → Rows mem rows indexed q → indexed ≡ true → length rows ≡ 32768
rows_whole w h = w.whole h

-- what lacks by the bits of an index is what lacks by the containment that they are read as
pub lack_indexed : (mem rows : List ℕ) (indexed : Bool) (q : Asking) → Rows mem rows indexed q → indexed ≡ true → {h : Holding}
    → h ≡ as_holding (lack_of (seen rows true q.by) (seen rows true q.over) (bit_at rows) (policy_of mem) q.right)
    → h ≡ as_holding (lack_by (sight mem rows indexed) (policy_of mem) q.user q.right q.element)
unfolding sight
lack_indexed mem rows true q w h e = e ∙ ap as_holding (lack_alike (sighted w (bit_at rows) (λ x y. refl)) q.right)
lack_indexed mem rows false q w h e = absurd (clash h refl)

-- what lacks by climbing is what lacks by chains of assignments
pub lack_climbed : (mem rows : List ℕ) (indexed : Bool) (q : Asking) → Rows mem rows indexed q → indexed ≡ false → {h : Holding}
    → h ≡ as_holding (lack_of (seen rows false q.by) (seen rows false q.over) (contained (policy_of mem)) (policy_of mem) q.right)
    → h ≡ as_holding (lack_by (sight mem rows indexed) (policy_of mem) q.user q.right q.element)
unfolding sight
lack_climbed mem rows true q w h e = absurd (clash refl h)
lack_climbed mem rows false q w h e = e ∙ ap as_holding (lack_alike (sighted w (contained (policy_of mem)) (λ x y. refl)) q.right)

-- what is answered says which number it is
abbrev pub Says : Holding → (n : ℕ) → Type 0
Says Held n = n ≡ 512
Says NoClass n = (n ≡ 0) × (n ≡ 512 → ⊥)
Says (LackedIn c) n = (n ≡ c) × (n ≡ 512 → ⊥)

pub says : (n : ℕ) {h : Holding} → h ≡ as_holding n → Says h n
says n e = subst (λ (h : Holding). Says h n) (sym e) (go (tested (eqb n 512)) (tested (eqb n 0)))
  where
    go : Tested (eqb n 512) → Tested (eqb n 0) → Says (as_holding n) n
    go (passes t) u = rw t (eqb-true n 512 t)
    go (fails t) (passes u) = rw (t, u) (eqb-true n 0 u, eqb-false n 512 t)
    go (fails t) (fails u) = rw (t, u) (refl, eqb-false n 512 t)

-- the least of numbers below 512 is below 512
least_small : (l : List ℕ) → ((m : ℕ) → In m l → m < 512) → least_or0 l < 512
least_small [] h = omega arith
least_small (x ∷ l) h = h (least_of x l) (least_in x l)

-- where nothing lacks the right is held
pub lack_held : (U E : ℕ → Bool) (T : ℕ → ℕ → Bool) (mem : List ℕ) (r : ℕ) → lack_of U E T (policy_of mem) r ≡ 512 → held_by U E T (policy_of mem) r ≡ true
unfolding lack_of
lack_held U E T mem r e = elim (tested (held_by U E T (policy_of mem) r)) [
  | passes h ↦ h
  | fails h ↦ absurd (omega (arith, ap (λ (b : Bool). cond b 512 (least_or0 lacking)) h, e, least_small lacking (λ m i. class_high E mem (those_in lacks (classes_of E (policy_of mem)) i))))
]
  where
    lacks : ℕ → Bool
    lacks c = not (given_in U E T (policy_of mem) r c)

    lacking : List ℕ
    lacking = those lacks (classes_of E (policy_of mem))

-- and the other way
pub held_lack : (U E : ℕ → Bool) (T : ℕ → ℕ → Bool) (p : Policy) (r : ℕ) → held_by U E T p r ≡ true → lack_of U E T p r ≡ 512
unfolding lack_of
held_lack U E T p r h = rw h

module _ (W : ℕ → ℕ → Bool) (mem : List ℕ) (process u r e : ℕ) where
  -- something lacks: the right is not permitted
  pub permits_lacking : (lack_by W (policy_of mem) u r e ≡ 512 → ⊥) → false ≡ permits W (policy_of mem) process u r e
  unfolding permits
  permits_lacking d = rw (fails_when (held W (policy_of mem) u r e) (λ h. d (held_lack (W u) (W e) W (policy_of mem) r h)))

  -- nothing lacks: it is permitted unless it is restricted
  permits_held : lack_by W (policy_of mem) u r e ≡ 512 → not (restricted W (policy_of mem) process u r e) ≡ permits W (policy_of mem) process u r e
  unfolding permits
  permits_held s = rw (lack_held (W u) (W e) W mem r s)

-- the same, where the rows tell what is restricted
pub permits_rest : (mem rows : List ℕ) (indexed : Bool) (q : Asking) → Rows mem rows indexed q
    → lack_by (sight mem rows indexed) (policy_of mem) q.user q.right q.element ≡ 512
    → {b : Bool} → b ≡ restricted_by (seen rows indexed q.by) (seen rows indexed q.over) (policy_of mem) q.process q.user q.right q.element
    → not b ≡ permits (sight mem rows indexed) (policy_of mem) q.process q.user q.right q.element
permits_rest mem rows indexed q w s e =
    ap not (e ∙ restricted_alike (sighted w (sight mem rows indexed) (λ x y. refl)) q.process q.user q.right q.element)
    ∙ permits_held (sight mem rows indexed) mem q.process q.user q.right q.element s
