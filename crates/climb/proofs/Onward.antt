-- A climb that goes on from closed marks: its start, and its end, where all that x is within is marked besides.
-- Assumes nothing.
use mathlib.Core.Path.{◌≡◌, refl, sym, subst, ◌∙◌}
use mathlib.Core.Bool.{true, ◌||◌}
use mathlib.Core.List.{List}
use mathlib.Core.Logic.{◌⊎◌, inl, inr, ⊎_elim}
use Prim.Native.Nat.{ℕ, ◌<◌}
use native.Mathlib.Omega.{arith}
use borrow.Author.Tests.{eqb-true, eq-eqb, ne_eqb}
use lib.Dec.{eqb}
use lib.ListN.{get_or}
use lib.Seq.{ext_get_or}
use Rattle.model.specs.Contain.{Within, itself, contained}
use Rattle.model.proofs.Truth.{or_cut, or_left, or_right}
use Rattle.model.proofs.Contained.{within_says, within_when}
use Rattle.table.specs.View.{policy_of}
use Rattle.climb.specs.Marking.{marks_of, also_marks}
use Rattle.climb.specs.Queued.{Container, Marked, Grown, Front, Closed, Climbed, Further, Blank}
use Rattle.climb.proofs.Queue.{marked_small, grown_split}
use Rattle.climb.proofs.Steps.{closed_all}
use Rattle.climb.proofs.Exactly.{marks_length, mark_digit, also_length, mark_also, digit_when}

-- elements were offered to closed marks: the climb stands at the end of what was queued before
pub front_on : {P : ℕ → Type 0} {mem seen queue : List ℕ} {tail : ℕ} {s q : List ℕ} {t : ℕ} → Closed mem seen queue tail → Grown P seen queue tail s q t → Front mem s q tail t
front_on {mem = mem} {seen} {queue} {tail} c g = record {
  good = g.good;
  order = g.longer;
  closed = λ k l y e. g.still y (before k l y (rw (g.kept k l) at e));
}
  where
    before : (k : ℕ) → k < tail → (y : ℕ) → Container mem (get_or queue k 0) y → Marked seen y
    before k l y e = c.closed (get_or queue k 0) y (marked_small c.good (get_or queue k 0) (c.good.marked k l)) (c.good.marked k l) e

module _ {mem : List ℕ} {x : ℕ} {seen queue : List ℕ} {tail : ℕ} (c : Closed mem seen queue tail) {s q : List ℕ} {t : ℕ} (g : Grown (λ z. z ≡ x) seen queue tail s q t)
    {seen' queue' : List ℕ} {r : ℕ} (d : Climbed mem s seen' queue' r) where
  -- what is marked then was marked before, or x is within it
  marked_says : (y : ℕ) → Marked seen' y → (eqb (get_or seen y 0) 1 || contained (policy_of mem) x y) ≡ true
  marked_says y m = let a = d.only y m in from a.start (grown_split c.good g a.start a.marked) a.leads
    where
      from : (z : ℕ) → Marked seen z ⊎ (z ≡ x) → Within (policy_of mem).assignments z y → (eqb (get_or seen y 0) 1 || contained (policy_of mem) x y) ≡ true
      from z (inl b) w = or_left (eqb (get_or seen y 0) 1) (contained (policy_of mem) x y) (eq-eqb (get_or seen y 0) 1 (closed_all c b w))
      from z (inr e) w =
          or_right (eqb (get_or seen y 0) 1) (contained (policy_of mem) x y)
          (within_when (policy_of mem).assignments (subst (λ (v : ℕ). Within (policy_of mem).assignments v y) e w))

  -- and the other way
  marked_when : (y : ℕ) → (eqb (get_or seen y 0) 1 || contained (policy_of mem) x y) ≡ true → Marked seen' y
  marked_when y e = ⊎_elim
      (λ b. d.all y y (g.still y (eqb-true (get_or seen y 0) 1 b)) itself)
      (λ b. d.all x y (g.all x refl) (within_says (policy_of mem).assignments b))
      (or_cut (eqb (get_or seen y 0) 1) (contained (policy_of mem) x y) e)

  -- all that x is within is marked besides
  pub climbed_on : Further mem x seen seen' queue' r
  climbed_on = record {
    marks = ext_get_or 0 seen' (also_marks mem seen x) (d.still.good.marks ∙ sym (also_length mem seen x)) (λ y l. each y (omega (arith, d.still.good.marks)));
    still = d.still;
  }
    where
      each : (y : ℕ) → y < 512 → get_or seen' y 0 ≡ get_or (also_marks mem seen x) y 0
      each y l =
          digit_when (eqb (get_or seen y 0) 1 || contained (policy_of mem) x y) (get_or seen' y 0) (d.still.good.bit y) (marked_says y) (marked_when y)
          ∙ sym (mark_also mem seen x y l)

-- where nothing was marked, the marks are those of all that x is within
also_none : (mem : List ℕ) {seen : List ℕ} (x : ℕ) → Blank seen → also_marks mem seen x ≡ marks_of mem x
also_none mem {seen} x b =
    ext_get_or 0 (also_marks mem seen x) (marks_of mem x) (also_length mem seen x ∙ sym (marks_length mem x)) (λ y l. each y (omega (arith, also_length mem seen x)))
  where
    each : (y : ℕ) → y < 512 → get_or (also_marks mem seen x) y 0 ≡ get_or (marks_of mem x) y 0
    each y l = mark_also mem seen x y l ∙ rw (ne_eqb (get_or seen y 0) 1 (λ e. omega (arith, b.zero_at y))) (sym (mark_digit mem x y l))

-- so a climb from no marks marks all that x is within
pub first_marks : {mem : List ℕ} {x : ℕ} {seen₀ seen queue : List ℕ} {r : ℕ} → Blank seen₀ → Further mem x seen₀ seen queue r → seen ≡ marks_of mem x
first_marks {mem} {x} b f = f.marks ∙ also_none mem x b
