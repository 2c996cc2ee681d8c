-- Where the associations rise, they are taken into account one after another: each is the lowest wherever none is named yet.
-- Assumes nothing.
use mathlib.Core.Path.{◌≡◌, refl, sym, ap, subst, ◌∙◌}
use mathlib.Core.Bool.{Bool, true, false, not, cond, ◌||◌, or-true}
use mathlib.Core.List.{List}
use mathlib.Core.Logic.{inl, inr}
use Prim.Native.Nat.{ℕ, zero, suc, ◌+◌, ◌≤◌, ◌<◌}
use native.Mathlib.Omega.{arith}
use native.Mathlib.Decide.{ℕ_discrete, dec_lt}
use lib.Dec.{eqb}
use lib.ListN.{get_or, replicate}
use Rattle.model.specs.Bits.{digit}
use Rattle.model.specs.Contain.{contained}
use Rattle.model.proofs.Truth.{Tested, passes, fails, tested}
use Rattle.table.specs.Layout.{association_count}
use Rattle.table.specs.View.{policy_of, association_at}
use Rattle.climb.specs.Queued.{At, Further, Kept}
use Rattle.climb.proofs.Queue.{zeros, closed_none, marked_small}
use Rattle.climb.proofs.Exactly.{mark_also}
use Rattle.rule.specs.declared.Asking.{Asking}
use Rattle.rule.specs.Sight.{seen}
use Rattle.rule.specs.Parts.{offers}
use Rattle.held.specs.Lacking.{Rows}
use Rattle.lowest.specs.Named.{is_lower, is_lower_at_target, lower_name, LoweredAbove}
use Rattle.lowest.specs.Marked.{associations_rise, first_name, ClassesQueued, Behind, FirstQueued, LowestMarked}
use Rattle.lowest.proofs.InOrder.{none_before}
use Rattle.lowest.proofs.Queued.{first_stays, first_some}
use Rattle.lowest.proofs.Taken.{taken_none, taken_kept, taken_lowered, taken_start}

-- a mark is the bit of whether it is set
mark_bit : (m : ℕ) → m ≤ 1 → digit (eqb m 1 || false) ≡ m
unfolding digit
mark_bit zero l = refl
mark_bit (suc zero) l = refl
mark_bit (suc (suc m)) l = absurd (omega arith)

-- what is queued after the climb are classes
pub queued_classes : {mem : List ℕ} {s : ℕ} {marks marks' queue' : List ℕ} {tail' : ℕ} → Further mem s marks marks' queue' tail' → ClassesQueued queue' tail'
queued_classes {queue'} f = record {
  room = f.still.good.room;
  short = f.still.good.short;
  small = λ k l. marked_small f.still.good (get_or queue' k 0) (f.still.good.marked k l);
}

-- One association more, where they rise.
module _ {mem rows : List ℕ} {q : Asking} {i : ℕ} {names marks queue : List ℕ} {tail : ℕ} (l : LowestMarked mem q i names marks queue tail) (t : Rows mem rows false q)
    {b : Bool} (e : b ≡ offers (seen rows false q.by) (seen rows false q.over) q.right (association_at mem i)) where
  -- it offers nothing
  pub first_none : not b ≡ true → LowestMarked mem q (i + 1) names marks queue tail
  first_none h = record { lowest = taken_none l.lowest t e h; closed = l.closed; some = l.some; none = l.none }

  module _ (h : not b ≡ false) (up : associations_rise mem ≡ true) (n : i < association_count mem) {s : ℕ} (es : s ≡ (association_at mem i).target) where
    -- it is not lower than one that is named
    not_lower : (name : ℕ) → name ≤ i → 0 < name → is_lower mem name i ≡ false
    unfolding is_lower
    not_lower zero f z = absurd (omega arith)
    not_lower (suc j) f z = none_before mem up j i (omega arith) n

    -- so the name of the lower is the first
    first_is_lower : (name : ℕ) → name ≤ i → first_name name i ≡ lower_name mem name i
    unfolding first_name lower_name is_lower
    first_is_lower zero f = refl
    first_is_lower (suc j) f = rw (none_before mem up j i (omega arith) n)

    -- its target is marked: nothing changes
    pub first_kept : 0 < get_or marks s 0 → LowestMarked mem q (i + 1) names marks queue tail
    unfolding is_lower_at_target
    first_kept m = record { lowest = taken_kept l.lowest t e h {r = false} (sym lower) refl; closed = l.closed; some = l.some; none = l.none }
      where
        small : s < 512
        small = omega arith

        lower : is_lower_at_target mem i names ≡ false
        lower = rw (← es) (not_lower (get_or names s 0) (l.lowest.few s small) (l.some s small m))

    -- all that its target is within is marked besides, and it is named where what is marked besides is queued
    module _ {marks' queue' : List ℕ} {tail' : ℕ} (f : Further mem s marks marks' queue' tail') (g : Kept queue tail queue' tail') {names' : List ℕ}
        (w : FirstQueued queue' tail tail' i names names') where
      -- each mark then
      mark : (c : ℕ) → c < 512 → get_or marks' c 0 ≡ digit (eqb (get_or marks c 0) 1 || contained (policy_of mem) s c)
      mark c k = ap (λ (m : List ℕ). get_or m c 0) f.marks ∙ mark_also mem marks s c k

      -- what the target is within is marked
      mark_in : (c : ℕ) → c < 512 → contained (policy_of mem) s c ≡ true → get_or marks' c 0 ≡ 1
      unfolding digit
      mark_in c k y = mark c k ∙ (rw (y, or-true (eqb (get_or marks c 0) 1)))

      -- and every other mark stays
      mark_out : (c : ℕ) → c < 512 → contained (policy_of mem) s c ≡ false → get_or marks' c 0 ≡ get_or marks c 0
      mark_out c k y = mark c k ∙ (rw y (mark_bit (get_or marks c 0) (l.closed.good.bit c)))

      -- what is not marked was not
      unmarked : (c : ℕ) → c < 512 → get_or marks' c 0 ≡ 0 → get_or marks c 0 ≡ 0
      unmarked c k z = elim (tested (contained (policy_of mem) s c)) [
        | passes y ↦ absurd (omega (arith, mark_in c k y))
        | fails y ↦ sym (mark_out c k y) ∙ z
      ]

      -- a class that is not marked keeps its name
      name_kept : (c : ℕ) → c < 512 → get_or marks' c 0 ≡ 0 → get_or names' c 0 ≡ get_or names c 0
      name_kept c k z = elim (w.only c) [
        | inl e ↦ e
        | inr b ↦ let m : get_or marks' c 0 ≡ 1 = subst (λ (x : ℕ). get_or marks' x 0 ≡ 1) b.is (f.still.good.marked b.at b.early) in absurd (omega arith)
      ]

      -- one that is marked and names none is queued behind what was marked
      behind : (c : ℕ) → c < 512 → (get_or marks' c 0 ≡ 0 → ⊥) → get_or names c 0 ≡ 0 → Behind queue' tail tail' c
      behind c k d z = go (f.still.good.listed c k (omega (arith, d, f.still.good.bit c)))
        where
          go : At queue' tail' c → Behind queue' tail tail' c
          go a = elim (dec_lt a.at tail) [
            | yes b ↦
                let e : get_or queue a.at 0 ≡ c = sym (g.kept a.at b) ∙ a.is in
                let m : get_or marks c 0 ≡ 1 = subst (λ (x : ℕ). get_or marks x 0 ≡ 1) e (l.closed.good.marked a.at b) in
                absurd (omega (arith, l.some c k (omega arith)))
            | no b ↦ record { at = a.at; late = omega arith; early = a.early; is = a.is }
          ]

      -- one that is marked has the first
      name_first : (c : ℕ) → c < 512 → (get_or marks' c 0 ≡ 0 → ⊥) → get_or names' c 0 ≡ first_name (get_or names c 0) i
      name_first c k d = elim (ℕ_discrete (get_or names c 0) 0) [
        | yes z ↦ w.first c (behind c k d z)
        | no s ↦ elim (w.only c) [ inl e ↦ e ∙ sym (first_stays (get_or names c 0) i (omega (arith, s))) | inr b ↦ w.first c b ]
      ]

      -- the lower one is named in each class that the target is within
      lowered : LoweredAbove mem i names names'
      lowered = record { size = w.size; is = λ c k. rw (← es) (go c k (tested (contained (policy_of mem) s c))) }
        where
          stays : (c : ℕ) → c < 512 → get_or marks' c 0 ≡ get_or marks c 0 → get_or names' c 0 ≡ get_or names c 0
          stays c k o = elim (ℕ_discrete (get_or marks' c 0) 0) [
            | yes z ↦ name_kept c k z
            | no d ↦ name_first c k d ∙ first_stays (get_or names c 0) i (l.some c k (omega (arith, d)))
          ]

          go : (c : ℕ) → c < 512 → Tested (contained (policy_of mem) s c)
              → get_or names' c 0 ≡ cond (contained (policy_of mem) s c) (lower_name mem (get_or names c 0) i) (get_or names c 0)
          go c k (passes y) = rw y (name_first c k (λ z. omega (arith, mark_in c k y)) ∙ first_is_lower (get_or names c 0) (l.lowest.few c k))
          go c k (fails y) = rw y (stays c k (mark_out c k y))

      -- so it is taken into account
      pub first_taken : LowestMarked mem q (i + 1) names' marks' queue' tail'
      first_taken = record {
        lowest = taken_lowered l.lowest t e h lowered;
        closed = f.still;
        some = λ c k m. rw (name_first c k (λ z. omega arith)) (first_some (get_or names c 0) i);
        none = λ c k z. name_kept c k z ∙ l.none c k (unmarked c k z);
      }

-- at first none is named, and nothing is marked
pub first_start : (mem : List ℕ) (q : Asking) → LowestMarked mem q 0 (replicate 512 0) (replicate 512 0) (replicate 512 0) 0
first_start mem q = record {
  lowest = taken_start mem q;
  closed = closed_none mem;
  some = λ c k m. absurd (omega (arith, zeros c));
  none = λ c k z. z;
}
