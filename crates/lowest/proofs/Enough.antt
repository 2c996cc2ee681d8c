-- How far the associations have to be gone through where they rise: the first that authorizes the right in a class is the lowest there, so that those
-- behind it need not be seen.
-- Assumes nothing.
use mathlib.Core.Path.{◌≡◌, refl, subst}
use mathlib.Core.Bool.{Bool, true, false}
use mathlib.Core.List.{List}
use Prim.Native.Nat.{ℕ, zero, suc, ◌+◌, ◌-◌, ◌≤◌, ◌<◌}
use native.Mathlib.Omega.{arith}
use native.Mathlib.Decide.{dec_lt}
use lib.ListN.{get_or, replicate}
use Rattle.model.specs.Lists.{those, tabulate, empty}
use Rattle.model.specs.Policy.{Association}
use Rattle.model.proofs.Truth.{clash, fails_when, Tested, passes, fails, tested}
use Rattle.table.specs.Layout.{association_count}
use Rattle.table.specs.View.{association_at}
use Rattle.rule.specs.declared.Asking.{Asking}
use Rattle.held.specs.Lacking.{Rows}
use Rattle.held.proofs.Turns.{Told}
use Rattle.std.specs.Prelude.{None}
use Rattle.held.specs.Passing.{LeastClass, NextClass}
use Rattle.lowest.specs.Named.{named, authorizing, LowestOfFirst, LowestOfClasses}
use Rattle.lowest.specs.Marked.{associations_rise, LowestMarked}
use Rattle.lowest.proofs.InOrder.{none_before}
use Rattle.lowest.proofs.Naming.{LowestNamed, named_still, named_kept, named_far, none_far, some_more}
use Rattle.lowest.proofs.Taken.{gives_in, zeros_give_none, each_class}
use Rattle.lowest.proofs.Rising.{first_start}
use Rattle.lowest.proofs.Walked.{is_class, class_from, class_below, walked, walked_end, class_passed}

-- where they rise, what is named stays the lowest with one association more
named_next : {mem : List ℕ} {f : Association → Bool} {i j : ℕ} → associations_rise mem ≡ true → i < association_count mem → LowestNamed mem f i (suc j)
    → LowestNamed mem f (i + 1) (suc j)
named_next {mem} {f} {i} {j} up l h = go (tested (f (association_at mem i)))
  where
    go : Tested (f (association_at mem i)) → LowestNamed mem f (i + 1) (suc j)
    go (passes e) = named_kept h e (association_at mem j) (named_far h j refl) (none_before mem up j i (omega (arith, h.few)) l)
    go (fails e) = named_still h e

-- and with all of them
named_on : {mem : List ℕ} {f : Association → Bool} {i j : ℕ} → associations_rise mem ≡ true → (k : ℕ) → i + k ≤ association_count mem → LowestNamed mem f i (suc j)
    → LowestNamed mem f (i + k) (suc j)
named_on {mem} {f} {i} {j} up zero l h = let e : i + 0 ≡ i = omega arith in rw e h
named_on {mem} {f} {i} {j} up (suc k) l h =
    let e : i + suc k ≡ i + k + 1 = omega arith in
    rw e (named_next up (omega arith) (named_on up k (omega arith) h))

-- where one of the first i passes, what is named is the lowest of all that pass
named_enough : {mem : List ℕ} {f : Association → Bool} {i : ℕ} (name : ℕ) → associations_rise mem ≡ true → i ≤ association_count mem → f (named mem 0) ≡ false
    → empty (those f (tabulate i (association_at mem))) ≡ false → LowestNamed mem f i name → LowestNamed mem f (association_count mem) name
named_enough zero up l z s h = absurd (clash (none_far h z refl) s)
named_enough {mem} {f} {i} (suc j) up l z s h =
    let e : i + (association_count mem - i) ≡ association_count mem = omega arith in
    subst (λ (m : ℕ). LowestNamed mem f m (suc j)) e (named_on up (association_count mem - i) (omega arith) h)

-- The first i associations are taken into account; in each class of the element below c one of them authorizes the right, unless they are all.
pub record EnoughTo (mem : List ℕ) (q : Asking) (n c i : ℕ) (names marks queue : List ℕ) (tail : ℕ) : Type 0 where
  pub marked : LowestMarked mem q i names marks queue tail
  pub counted : n ≡ association_count mem
  pub few : i ≤ n
  pub most : c ≤ 512
  pub enough : (d : ℕ) → d < c → is_class mem q d ≡ true → i < n → empty (authorizing mem q i d) ≡ false

-- there is no class below 1
pub enough_start : (mem : List ℕ) (q : Asking) {n : ℕ} → n ≡ association_count mem → EnoughTo mem q n 1 0 (replicate 512 0) (replicate 512 0) (replicate 512 0) 0
enough_start mem q e = record {
  marked = first_start mem q;
  counted = e;
  few = omega arith;
  most = omega arith;
  enough = λ d l k m. absurd (omega (arith, class_from mem q k));
}

module _ {mem : List ℕ} {q : Asking} {n c i : ℕ} {names marks queue : List ℕ} {tail : ℕ} (f : EnoughTo mem q n c i names marks queue tail) where
  -- the next association
  module _ {x i' n' : ℕ} (t : Told i n x i' n') where
    pub enough_next : x < association_count mem
    enough_next = omega (arith, f.counted, t.1.0, t.1.1)

    -- what is named and marked before it
    pub enough_marked : LowestMarked mem q x names marks queue tail
    enough_marked = rw t.1.1 f.marked

    -- it is taken into account
    pub enough_more : {names' marks' queue' : List ℕ} {tail' : ℕ} → LowestMarked mem q (x + 1) names' marks' queue' tail' → EnoughTo mem q n' c i' names' marks' queue' tail'
    enough_more m =
        let e : i' ≡ i + 1 = t.1.2 in
        let k : x + 1 ≡ i + 1 = omega (arith, t.1.1) in
        rw (e, t.0) (record {
          marked = rw k at m;
          counted = f.counted;
          few = omega (arith, t.1.0);
          most = f.most;
          enough = λ d b k s. some_more (each_class f.marked.lowest d (class_below mem q k)) (f.enough d b k (omega arith));
        })

  module _ {rows : List ℕ} (t : Rows mem rows false q) where
    -- the next class
    pub enough_class : {s : ℕ} → LeastClass mem rows q.over c 512 s → EnoughTo mem q n s i names marks queue tail
    enough_class w = record {
      marked = f.marked;
      counted = f.counted;
      few = f.few;
      most = omega (arith, w.early);
      enough = λ d b k l. f.enough d (class_passed mem q (walked t w).none d b k) k l;
    }

  module _ (l : c < 512) where
    -- on behind this class, where one of the first i authorizes the right in it, unless they are all
    on : (i < n → is_class mem q c ≡ true → empty (authorizing mem q i c) ≡ false) → EnoughTo mem q n (c + 1) i names marks queue tail
    on h = record {
      marked = f.marked;
      counted = f.counted;
      few = f.few;
      most = omega arith;
      enough = λ d b k s. elim (dec_lt d c) [
        | yes y ↦ f.enough d y k s
        | no y ↦ let e : c ≡ d = omega arith in
            subst (λ (x : ℕ). is_class mem q x ≡ true → empty (authorizing mem q i x) ≡ false) e (h s) k
      ];
    }

    -- they are all
    pub enough_all : n ≤ i → EnoughTo mem q n (c + 1) i names marks queue tail
    enough_all g = on (λ s k. absurd (omega arith))

    -- this one names one
    pub enough_named : (get_or names c 0 ≡ 0 → ⊥) → EnoughTo mem q n (c + 1) i names marks queue tail
    enough_named d =
        on (λ s k. fails_when (empty (authorizing mem q i c)) (λ e. d (f.marked.lowest.none c (class_below mem q k) e)))

  module _ (up : associations_rise mem ≡ true) {rows : List ℕ} (t : Rows mem rows false q) (none : NextClass mem rows q.over c 512 None) where
    -- behind the last class, each class of the element names the lowest of all
    each_end : (d : ℕ) → is_class mem q d ≡ true → LowestNamed mem (gives_in mem q d) (association_count mem) (get_or names d 0)
    each_end d k = elim (dec_lt i n) [
      | yes s ↦ named_enough (get_or names d 0) up (omega (arith, f.counted, f.few)) (zeros_give_none mem q d) (f.enough d (class_passed mem q (walked_end t none) d (class_below mem q k) k) k s) (each_class f.marked.lowest d (class_below mem q k))
      | no s ↦ let e : i ≡ association_count mem = omega (arith, f.few, f.counted) in
          subst (λ (m : ℕ). LowestNamed mem (gives_in mem q d) m (get_or names d 0)) e (each_class f.marked.lowest d (class_below mem q k))
    ]

    -- what is named behind the last class
    pub enough_end : LowestOfClasses mem q names
    enough_end = record {
      size = f.marked.lowest.size;
      few = λ d h. omega (arith, f.marked.lowest.few d h, f.few, f.counted);
      is = λ d k. (each_end d k).is;
      none = λ d k. (each_end d k).none;
    }

-- where each class names the lowest of all, so does each class of the element
pub classes_all : {mem : List ℕ} {q : Asking} {names : List ℕ} → LowestOfFirst mem q (association_count mem) names → LowestOfClasses mem q names
classes_all {mem} {q} l = record {
  size = l.size;
  few = l.few;
  is = λ c k. l.is c (class_below mem q k);
  none = λ c k. l.none c (class_below mem q k);
}
