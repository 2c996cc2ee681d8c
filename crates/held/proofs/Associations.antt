-- The classes in which one of the first associations gives the right: one association more, and all of them.
-- Assumes nothing.
use mathlib.Core.Path.{◌≡◌, refl, sym, ap, subst, ◌∙◌}
use mathlib.Core.Bool.{Bool, true, false, not, ◌&&◌, ◌||◌, or-false}
use mathlib.Core.List.{List}
use Prim.Native.Nat.{ℕ, ◌+◌, ◌≤◌, ◌<◌}
use native.Mathlib.Omega.{arith}
use borrow.Author.Tests.{not-true, not-false}
use lib.Dec.{eqb}
use lib.ListN.{get_or, replicate, length-replicate}
use Rattle.model.specs.Lists.{In, any_of, tabulate}
use Rattle.model.specs.Policy.{Association}
use Rattle.model.specs.Bits.{digit}
use Rattle.model.specs.Contain.{contained}
use Rattle.model.specs.Index.{bit_at}
use Rattle.model.specs.Rule.{gives, given_in}
use Rattle.model.proofs.Truth.{any_in, any_found}
use Rattle.table.specs.Layout.{association_count}
use Rattle.table.specs.View.{policy_of, associations_of, association_at}
use Rattle.table.proofs.Tabled.{in_tabulate, tabulate_in}
use Rattle.climb.specs.Queued.{Further}
use Rattle.climb.proofs.Queue.{zeros, closed_none}
use Rattle.climb.proofs.Exactly.{mark_also}
use Rattle.index.specs.Rows.{RowJoined}
use Rattle.index.proofs.Joins.{joined_bit, no_bits}
use Rattle.rule.specs.Sight.{seen}
use Rattle.rule.specs.Parts.{offers}
use Rattle.rule.specs.declared.Asking.{Asking}
use Rattle.table.proofs.Loops.{any_more}
use Rattle.held.specs.Giving.{given_by_first, GivenMarks, GivenBits}

module _ (U E : ℕ → Bool) (T : ℕ → ℕ → Bool) (mem : List ℕ) (r : ℕ) where
  -- none of no associations gives the right
  pub given_none : (c : ℕ) → given_by_first U E T mem r 0 c ≡ false
  unfolding given_by_first tabulate any_of
  given_none c = refl

  -- one association more gives it where it is offered and its target is within the class
  given_more : (i c : ℕ) → given_by_first U E T mem r (i + 1) c ≡ (given_by_first U E T mem r i c || (offers U E r (association_at mem i) && T (association_at mem i).target c))
  unfolding given_by_first gives offers
  given_more i c = any_more (gives U E T r c) (association_at mem) i

  -- all associations give it where one of them does
  pub given_all : (c : ℕ) → given_by_first U E T mem r (association_count mem) c ≡ given_in U E T (policy_of mem) r c
  unfolding given_by_first given_in policy_of associations_of
  given_all c = refl

  -- what some give, all give
  pub given_some : (i c : ℕ) → i ≤ association_count mem → given_by_first U E T mem r i c ≡ true → given_in U E T (policy_of mem) r c ≡ true
  unfolding given_by_first given_in policy_of associations_of
  given_some i c h e =
      let f = any_found (gives U E T r c) (tabulate i (association_at mem)) e in
      let t = tabulate_in i (association_at mem) f.there in
      any_in (gives U E T r c)
      (subst (λ (a : Association). In a (tabulate (association_count mem) (association_at mem))) t.is (in_tabulate (association_count mem) (association_at mem) t.at (omega (arith, t.early))))
      f.is

  module _ (i c : ℕ) {b : Bool} (e : b ≡ offers U E r (association_at mem i)) where
    -- an association that does not offer the right gives nothing more
    given_kept : not b ≡ true → given_by_first U E T mem r (i + 1) c ≡ given_by_first U E T mem r i c
    given_kept h = given_more i c ∙ rw (← e, not-true b h) (or-false (given_by_first U E T mem r i c))

    -- one that does gives it in the classes that its target is within
    given_joined : not b ≡ false → {t : ℕ} → t ≡ (association_at mem i).target
        → given_by_first U E T mem r (i + 1) c ≡ (given_by_first U E T mem r i c || T t c)
    given_joined h q = given_more i c ∙ rw (← e, not-false b h, ← q)

-- a mark read as a Boolean
digit_read : (b : Bool) → eqb (digit b) 1 ≡ b
unfolding digit
digit_read true = refl
digit_read false = refl

-- a mark that is 0 is that of what does not hold, any other of what holds
pub digit_low : (b : Bool) → digit b < 1 → b ≡ false
unfolding digit
digit_low true h = absurd (omega arith)
digit_low false h = refl

pub digit_high : (b : Bool) → 1 ≤ digit b → b ≡ true
unfolding digit
digit_high true h = refl
digit_high false h = absurd (omega arith)

-- nothing is marked, and no association has been seen
pub marks_none : (mem rows : List ℕ) (q : Asking) → GivenMarks mem rows q 0 (replicate 512 0) (replicate 512 0) 0
unfolding digit
marks_none mem rows q = record {
  closed = closed_none mem;
  is = λ c l. zeros c ∙ ap digit (sym (given_none (seen rows false q.by) (seen rows false q.over) (contained (policy_of mem)) mem q.right c));
}

-- One association more, by climbing.
module _ {mem rows : List ℕ} {q : Asking} {i : ℕ} {given queue : List ℕ} {tail : ℕ} (g : GivenMarks mem rows q i given queue tail)
    {b : Bool} (e : b ≡ offers (seen rows false q.by) (seen rows false q.over) q.right (association_at mem i)) where
  -- it does not offer the right
  pub marks_kept : not b ≡ true → GivenMarks mem rows q (i + 1) given queue tail
  marks_kept h = record {
    closed = g.closed;
    is = λ c l. g.is c l ∙ ap digit (sym (given_kept (seen rows false q.by) (seen rows false q.over) (contained (policy_of mem)) mem q.right i c e h));
  }

  -- all that its target is within is marked besides
  pub marks_joined : not b ≡ false → {t : ℕ} → t ≡ (association_at mem i).target → {given' queue' : List ℕ} {tail' : ℕ}
      → Further mem t given given' queue' tail' → GivenMarks mem rows q (i + 1) given' queue' tail'
  marks_joined h {t} k f = record {
    closed = f.still;
    is = λ c l.
        let old : Bool = given_by_first (seen rows false q.by) (seen rows false q.over) (contained (policy_of mem)) mem q.right i c in
        ap (λ (m : List ℕ). get_or m c 0) f.marks
        ∙ mark_also mem given t c l
        ∙ ap (λ (s : Bool). digit (s || contained (policy_of mem) t c)) (ap (λ (m : ℕ). eqb m 1) (g.is c l) ∙ digit_read old)
        ∙ ap digit (sym (given_joined (seen rows false q.by) (seen rows false q.over) (contained (policy_of mem)) mem q.right i c e h k));
  }

-- no bit is 1, and no association has been seen
pub bits_none : (mem idx : List ℕ) (q : Asking) → GivenBits mem idx q 0 (replicate 64 0)
bits_none mem idx q = record {
  size = length-replicate {A = ℕ} 64 0;
  is = λ c l. no_bits 64 0 c ∙ sym (given_none (seen idx true q.by) (seen idx true q.over) (bit_at idx) mem q.right c);
}

-- One association more, by the bits of an index.
module _ {mem idx : List ℕ} {q : Asking} {i : ℕ} {given : List ℕ} (g : GivenBits mem idx q i given)
    {b : Bool} (e : b ≡ offers (seen idx true q.by) (seen idx true q.over) q.right (association_at mem i)) where
  -- it does not offer the right
  pub bits_kept : not b ≡ true → GivenBits mem idx q (i + 1) given
  bits_kept h = record {
    size = g.size;
    is = λ c l. g.is c l ∙ sym (given_kept (seen idx true q.by) (seen idx true q.over) (bit_at idx) mem q.right i c e h);
  }

  -- the row of its target is added
  pub bits_joined : not b ≡ false → {t : ℕ} → t ≡ (association_at mem i).target → {given' : List ℕ} → RowJoined idx t 64 given given' → GivenBits mem idx q (i + 1) given'
  bits_joined h {t} k f = record {
    size = f.size ∙ g.size;
    is = λ c l.
        joined_bit f c l
        ∙ ap (λ (s : Bool). s || bit_at idx t c) (g.is c l)
        ∙ sym (given_joined (seen idx true q.by) (seen idx true q.over) (bit_at idx) mem q.right i c e h k);
  }
