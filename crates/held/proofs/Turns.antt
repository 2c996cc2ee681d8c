-- The turns of the loop over the classes of an element: on to the next, one in which the right is given, the first that lacks it.
-- Assumes nothing.
use mathlib.Core.Path.{◌≡◌, sym, ap, ◌∙◌}
use mathlib.Core.Bool.{Bool, true, false, not}
use mathlib.Core.List.{List}
use Prim.Native.Nat.{ℕ, ◌+◌, ◌-◌, ◌≤◌, ◌<◌}
use native.Mathlib.Omega.{arith}
use native.Mathlib.Decide.{dec_lt}
use borrow.Author.Tests.{ne_eqb, not-true, not-false}
use lib.ListN.{get_or, replicate}
use Rattle.model.specs.Lists.{In}
use Rattle.model.specs.Contain.{contained}
use Rattle.model.specs.Index.{bit_at}
use Rattle.model.specs.Rule.{classes_of, given_in}
use Rattle.model.proofs.Truth.{clash}
use Rattle.table.specs.Layout.{association_count}
use Rattle.table.specs.View.{policy_of}
use Rattle.rule.specs.Sight.{seen}
use Rattle.rule.specs.Parts.{class_of}
use Rattle.rule.specs.declared.Asking.{Asking}
use Rattle.rule.proofs.Sighted.{class_either}
use Rattle.std.specs.Prelude.{None}
use Rattle.held.specs.declared.Holding.{Holding}
use Rattle.held.specs.declared.Holding.TheVariants.{Held, NoClass, LackedIn}
use Rattle.held.specs.Lacking.{lack_of, as_holding}
use Rattle.held.specs.Passing.{LeastClass, NextClass}
use Rattle.held.specs.Giving.{given_by_first, GivenMarks, GivenBits}
use Rattle.held.proofs.Classes.{class_low, class_high, class_passes, passes_class, lack_no_class, lack_nothing, lack_lowest}
use Rattle.held.proofs.Associations.{given_all, given_some, digit_low, digit_high, marks_none, bits_none}

-- whether the element has a class below c
pub data Met (E : ℕ → Bool) (mem : List ℕ) (c : ℕ) : Holding → Type 0 where
  none_met : ((d : ℕ) → d < c → In d (classes_of E (policy_of mem)) → ⊥) → Met E mem c NoClass
  one_met : {d : ℕ} → In d (classes_of E (policy_of mem)) → Met E mem c Held

module _ (U E : ℕ → Bool) (T : ℕ → ℕ → Bool) (mem : List ℕ) (r : ℕ) where
  -- the right is given in each class of the element below c, and `lacked` says whether there is one
  pub record Far (c : ℕ) (lacked : Holding) : Type 0 where
    pub given : (d : ℕ) → d < c → In d (classes_of E (policy_of mem)) → given_in U E T (policy_of mem) r d ≡ true
    pub met : Met E mem c lacked

  -- c is a class of the element, and the right is given in each below it
  pub record AtClass (c : ℕ) : Type 0 where
    pub given : (d : ℕ) → d < c → In d (classes_of E (policy_of mem)) → given_in U E T (policy_of mem) r d ≡ true
    pub small : c < 512
    pub its_class : In c (classes_of E (policy_of mem))

  -- no class is below 1
  far_none : Far 1 NoClass
  far_none = record {
    given = λ d l i. absurd (omega (arith, class_low E mem i));
    met = none_met (λ d l i. omega (arith, class_low E mem i));
  }

-- The turns, by any rows.
module _ {U E : ℕ → Bool} {T : ℕ → ℕ → Bool} {mem : List ℕ} {r : ℕ} where
  module _ {c : ℕ} {lacked : Holding} (f : Far U E T mem r c lacked) where
    -- a class below n is below c, where there is none from c on below n
    below : {n : ℕ} → ((y : ℕ) → c ≤ y → y < n → class_of E (policy_of mem) y ≡ false) → (d : ℕ) → d < n → In d (classes_of E (policy_of mem)) → d < c
    below none d k i = elim (dec_lt d c) [
      | yes y ↦ y
      | no y ↦ absurd (clash (class_passes E mem i) (none d (omega arith) k))
    ]

    -- the next class
    far_class : {n : ℕ} → ((y : ℕ) → c ≤ y → y < n → class_of E (policy_of mem) y ≡ false) → n < 512 → class_of E (policy_of mem) n ≡ true → AtClass U E T mem r n
    far_class none l e = record { given = λ d k i. f.given d (below none d k i) i; small = l; its_class = passes_class E mem e }

    -- there is no more
    far_end : ((y : ℕ) → c ≤ y → y < 512 → class_of E (policy_of mem) y ≡ false) → lacked ≡ as_holding (lack_of U E T (policy_of mem) r)
    far_end none = go f.met
      where
        all : (d : ℕ) → In d (classes_of E (policy_of mem)) → d < c
        all d i = below none d (class_high E mem i) i

        go : {lacked : Holding} → Met E mem c lacked → lacked ≡ as_holding (lack_of U E T (policy_of mem) r)
        go (none_met n) = rw (lack_no_class U E T (policy_of mem) r (λ d i. n d (all d i) i))
        go (one_met i) = rw (lack_nothing U E T (policy_of mem) r i (λ d j. f.given d (all d j) j))

  -- what the first i associations say of a class of the element
  module _ {c : ℕ} (a : AtClass U E T mem r c) (i : ℕ) where
    -- they give the right in it
    class_given : i ≤ association_count mem → given_by_first U E T mem r i c ≡ true → Far U E T mem r (c + 1) Held
    class_given m g = record {
      given = λ d k j. elim (dec_lt d c) [
        | yes y ↦ a.given d y j
        | no n ↦ let q : d ≡ c = omega arith in rw q (given_some U E T mem r i c m g)
      ];
      met = one_met a.its_class;
    }

    -- they are all, and do not: it is the lowest that lacks it
    class_lacks : i ≡ association_count mem → given_by_first U E T mem r i c ≡ false → LackedIn c ≡ as_holding (lack_of U E T (policy_of mem) r)
    class_lacks m g =
        let from : 1 ≤ c = class_low E mem a.its_class in
        rw (
          lack_lowest U E T (policy_of mem) r a.its_class (sym (given_all U E T mem r c) ∙ ap (λ (j : ℕ). given_by_first U E T mem r j c) (sym m) ∙ g) a.given,
          ne_eqb c 512 (λ e. omega (arith, e, a.small)),
          ne_eqb c 0 (λ e. omega (arith, e)),
        )

-- The loop over the classes, by climbing: the classes below c are behind it, with i of the n associations seen.
pub record FarMarked (mem rows : List ℕ) (q : Asking) (n c : ℕ) (lacked : Holding) (i : ℕ) (given queue : List ℕ) (tail : ℕ) : Type 0 where
  pub far : Far (seen rows false q.by) (seen rows false q.over) (contained (policy_of mem)) mem q.right c lacked
  pub marks : GivenMarks mem rows q i given queue tail
  pub counted : n ≡ association_count mem
  pub few : i ≤ n
  pub most : c ≤ 512

-- the next of the associations, which are told off from i on
abbrev pub Told : (i n x i' n' : ℕ) → Type 0
Told i n x i' n' = (n' ≡ n) × ((0 < n - i) × (x ≡ i) × (i' ≡ i + 1))

-- it is at a class of the element
pub record AtMarked (mem rows : List ℕ) (q : Asking) (n c i : ℕ) (given queue : List ℕ) (tail : ℕ) : Type 0 where
  pub at : AtClass (seen rows false q.by) (seen rows false q.over) (contained (policy_of mem)) mem q.right c
  pub marks : GivenMarks mem rows q i given queue tail
  pub counted : n ≡ association_count mem
  pub few : i ≤ n

-- it starts
pub marked_start : (mem rows : List ℕ) (q : Asking) {n : ℕ} → n ≡ association_count mem → FarMarked mem rows q n 1 NoClass 0 (replicate 512 0) (replicate 512 0) 0
marked_start mem rows q k = record {
  far = far_none (seen rows false q.by) (seen rows false q.over) (contained (policy_of mem)) mem q.right;
  marks = marks_none mem rows q;
  counted = k;
  few = omega arith;
  most = omega arith;
}

module _ {mem rows : List ℕ} {q : Asking} {n c : ℕ} {lacked : Holding} {i : ℕ} {given queue : List ℕ} {tail : ℕ}
    (f : FarMarked mem rows q n c lacked i given queue tail) where
  -- on to the next class
  pub marked_class : {s : ℕ} → LeastClass mem rows q.over c 512 s → AtMarked mem rows q n s i given queue tail
  marked_class {s} p = record {
    at = far_class f.far (λ y a b. class_either mem rows q.over y ∙ p.none y a b) p.early (class_either mem rows q.over s ∙ p.its_class);
    marks = f.marks;
    counted = f.counted;
    few = f.few;
  }

  -- past the last class
  pub marked_end : NextClass mem rows q.over c 512 None
      → lacked ≡ as_holding (lack_of (seen rows false q.by) (seen rows false q.over) (contained (policy_of mem)) (policy_of mem) q.right)
  marked_end none = far_end f.far (λ y a b. class_either mem rows q.over y ∙ none y a b)

module _ {mem rows : List ℕ} {q : Asking} {n c i : ℕ} {given queue : List ℕ} {tail : ℕ} (a : AtMarked mem rows q n c i given queue tail) where
  -- one association more
  module _ {x i' n' : ℕ} (t : Told i n x i' n') where
    pub marked_next : x < association_count mem
    marked_next = omega (arith, a.counted, t.1.0, t.1.1)

    pub marked_still : GivenMarks mem rows q x given queue tail
    marked_still = rw t.1.1 a.marks

    pub marked_more : {given' queue' : List ℕ} {tail' : ℕ} → GivenMarks mem rows q (x + 1) given' queue' tail' → AtMarked mem rows q n' c i' given' queue' tail'
    marked_more g =
        let e : i' ≡ x + 1 = omega (arith, t.1.1, t.1.2) in
        record { at = a.at; marks = rw e g; counted = t.0 ∙ a.counted; few = omega (arith, t.0, t.1.0, t.1.2) }

  -- whether one of the first i associations gives the right in the class
  abbrev is_marked : Bool
  is_marked = given_by_first (seen rows false q.by) (seen rows false q.over) (contained (policy_of mem)) mem q.right i c

  -- its mark is set: they give it
  pub marked_given : (get_or given c 0 ≡ 0 → ⊥) → FarMarked mem rows q n (c + 1) Held i given queue tail
  marked_given s = record {
    far = class_given a.at i (omega (arith, a.counted, a.few)) (digit_high is_marked (omega (arith, s, a.marks.is c a.at.small)));
    marks = a.marks;
    counted = a.counted;
    few = a.few;
    most = omega (arith, a.at.small);
  }

  -- its mark is not set, and all associations have been seen
  pub marked_lacks : n - i ≡ 0 → get_or given c 0 ≡ 0
      → LackedIn c ≡ as_holding (lack_of (seen rows false q.by) (seen rows false q.over) (contained (policy_of mem)) (policy_of mem) q.right)
  marked_lacks m s = class_lacks a.at i (omega (arith, m, a.counted, a.few)) (digit_low is_marked (omega (arith, s, a.marks.is c a.at.small)))

-- The loop over the classes, by the bits of an index: the classes below c are behind it, with i of the n associations seen.
pub record FarBits (mem idx : List ℕ) (q : Asking) (n c : ℕ) (lacked : Holding) (i : ℕ) (given : List ℕ) : Type 0 where
  pub far : Far (seen idx true q.by) (seen idx true q.over) (bit_at idx) mem q.right c lacked
  pub bits : GivenBits mem idx q i given
  pub counted : n ≡ association_count mem
  pub few : i ≤ n
  pub most : c ≤ 512

-- it is at a class of the element
pub record AtBits (mem idx : List ℕ) (q : Asking) (n c i : ℕ) (given : List ℕ) : Type 0 where
  pub at : AtClass (seen idx true q.by) (seen idx true q.over) (bit_at idx) mem q.right c
  pub bits : GivenBits mem idx q i given
  pub counted : n ≡ association_count mem
  pub few : i ≤ n

-- it starts
pub bit_start : (mem idx : List ℕ) (q : Asking) {n : ℕ} → n ≡ association_count mem → FarBits mem idx q n 1 NoClass 0 (replicate 64 0)
bit_start mem idx q k = record {
  far = far_none (seen idx true q.by) (seen idx true q.over) (bit_at idx) mem q.right;
  bits = bits_none mem idx q;
  counted = k;
  few = omega arith;
  most = omega arith;
}

module _ {mem idx : List ℕ} {q : Asking} {n c : ℕ} {lacked : Holding} {i : ℕ} {given : List ℕ} (f : FarBits mem idx q n c lacked i given) where
  -- on to the next class
  pub bit_class : {s : ℕ} → LeastClass mem idx q.over c 512 s → AtBits mem idx q n s i given
  bit_class p = record { at = far_class f.far p.none p.early p.its_class; bits = f.bits; counted = f.counted; few = f.few }

  -- past the last class
  pub bit_end : NextClass mem idx q.over c 512 None → lacked ≡ as_holding (lack_of (seen idx true q.by) (seen idx true q.over) (bit_at idx) (policy_of mem) q.right)
  bit_end none = far_end f.far none

module _ {mem idx : List ℕ} {q : Asking} {n c i : ℕ} {given : List ℕ} (a : AtBits mem idx q n c i given) where
  -- one association more
  module _ {x i' n' : ℕ} (t : Told i n x i' n') where
    pub bit_next : x < association_count mem
    bit_next = omega (arith, a.counted, t.1.0, t.1.1)

    pub bit_still : GivenBits mem idx q x given
    bit_still = rw t.1.1 a.bits

    pub bit_more : {given' : List ℕ} → GivenBits mem idx q (x + 1) given' → AtBits mem idx q n' c i' given'
    bit_more g =
        let e : i' ≡ x + 1 = omega (arith, t.1.1, t.1.2) in
        record { at = a.at; bits = rw e g; counted = t.0 ∙ a.counted; few = omega (arith, t.0, t.1.0, t.1.2) }

  module _ {s : Bool} (t : s ≡ bit_at given 0 c) where
    -- its bit is 1: they give it
    pub bit_given : not s ≡ false → FarBits mem idx q n (c + 1) Held i given
    bit_given o = record {
      far = class_given a.at i (omega (arith, a.counted, a.few)) (sym (a.bits.is c a.at.small) ∙ sym t ∙ not-false s o);
      bits = a.bits;
      counted = a.counted;
      few = a.few;
      most = omega (arith, a.at.small);
    }

    -- its bit is 0, and all associations have been seen
    pub bit_lacks : n - i ≡ 0 → not s ≡ true → LackedIn c ≡ as_holding (lack_of (seen idx true q.by) (seen idx true q.over) (bit_at idx) (policy_of mem) q.right)
    bit_lacks m o = class_lacks a.at i (omega (arith, m, a.counted, a.few)) (sym (a.bits.is c a.at.small) ∙ sym t ∙ not-true s o)
