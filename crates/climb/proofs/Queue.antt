-- The marks and the queue: what one offer does, and how offers follow one another.
-- Assumes nothing.
use mathlib.Core.Path.{◌≡◌, refl, sym, subst, ◌∙◌}
use mathlib.Core.Logic.{◌⊎◌, inl, inr}
use Prim.Native.Nat.{ℕ, zero, suc, ◌+◌, ◌≤◌, ◌<◌, zero-le}
use native.Mathlib.Omega.{arith}
use native.Mathlib.Nat.{le_of_suc-le-suc, not-suc-le-zero}
use native.Mathlib.Decide.{ℕ_discrete, dec_lt}
use mathlib.Core.List.{List, [], ◌∷◌}
use lib.ListN.{length, get_or, set, replicate, length-set, length-replicate, get_or-replicate, get_or-eq_default}
use lib.Seq.{get_or-set_same, get_or-set_other}
use Rattle.climb.specs.Queued.{Marked, is_one, mark_count, At, Listed, Grown, Closed, Kept, Blank}

-- a mark counts at most once
is_one_le : (x : ℕ) → is_one x ≤ 1
is_one_le zero = omega arith
is_one_le (suc zero) = omega arith
is_one_le (suc (suc n)) = omega arith

-- what is not 1 does not count
is_one_not : (x : ℕ) → (x ≡ 1 → ⊥) → is_one x ≡ 0
is_one_not zero h = refl
is_one_not (suc zero) h = absurd (h refl)
is_one_not (suc (suc n)) h = refl

-- no more are marked than there are marks
marks_le : (l : List ℕ) → mark_count l ≤ length l
marks_le [] = zero-le
marks_le (x ∷ l) = omega (arith, is_one_le x, marks_le l)

-- one more is marked
marks_set : (l : List ℕ) (i : ℕ) → i < length l → (Marked l i → ⊥) → mark_count (set l i 1) ≡ mark_count l + 1
marks_set [] i h n = absurd (not-suc-le-zero h)
marks_set (x ∷ l) zero h n = omega (arith, is_one_not x n)
marks_set (x ∷ l) (suc i) h n = omega (arith, marks_set l i (le_of_suc-le-suc h) n)

-- where each mark is 0 none counts
marks_none : (l : List ℕ) → ((y : ℕ) → get_or l y 0 ≡ 0) → mark_count l ≡ 0
marks_none [] h = refl
marks_none (x ∷ l) h = omega (arith, is_one_not x (λ e. omega (arith, h 0)), marks_none l (λ y. h (suc y)))

-- each mark is 0
pub zeros : (y : ℕ) → ◌≡◌ {A = ℕ} (get_or (replicate 512 0) y 0) 0
zeros y = elim (dec_lt y 512) [
  | yes l ↦ get_or-replicate {A = ℕ} 512 y 0 0 l
  | no l ↦ get_or-eq_default (replicate 512 0) 0 {n = y} (omega (arith, length-replicate {A = ℕ} 512 0))
]

-- so in zeros no element is marked
pub blank_zeros : Blank (replicate 512 0)
blank_zeros = record { size = length-replicate {A = ℕ} 512 0; zero_at = zeros }

module _ {seen queue : List ℕ} (b : Blank seen) (room : length queue ≡ 512) where
  -- nothing is marked, and nothing is queued
  listed_blank : Listed seen queue 0
  listed_blank = record {
    marks = b.size;
    room = room;
    counted = marks_none seen b.zero_at;
    short = omega arith;
    bit = λ y. omega (arith, b.zero_at y);
    marked = λ k l. absurd (omega arith);
    listed = λ y l m. absurd (omega (arith, b.zero_at y));
  }

  -- so each container of a marked element is marked: where nothing is marked, a climb can start
  pub closed_blank : (mem : List ℕ) → Closed mem seen queue 0
  closed_blank mem = record { good = listed_blank; closed = λ x y l m c. absurd (omega (arith, b.zero_at x)) }

-- so it can from zeros
pub closed_none : (mem : List ℕ) → Closed mem (replicate 512 0) (replicate 512 0) 0
closed_none mem = closed_blank blank_zeros (length-replicate {A = ℕ} 512 0) mem

module _ {seen queue : List ℕ} {tail : ℕ} (g : Listed seen queue tail) where
  -- a marked element is below 512
  pub marked_small : (y : ℕ) → Marked seen y → y < 512
  marked_small y m = elim (dec_lt y 512) [ yes b ↦ b | no b ↦ absurd (omega (arith, get_or-eq_default seen 0 {n = y} (omega arith))) ]

  -- nothing is added
  pub grow_none : (P : ℕ → Type 0) → ((y : ℕ) → P y → Marked seen y) → Grown P seen queue tail seen queue tail
  grow_none P all = record {
    good = g;
    longer = omega arith;
    kept = λ k l. refl;
    new = λ k l l'. absurd (omega arith);
    still = λ y m. m;
    all = all;
  }

  module _ (y : ℕ) (small : y < 512) (n : Marked seen y → ⊥) where
    -- an element that is not marked finds room
    pub room : tail < 512
    room = omega (arith, marks_set seen y (omega arith) n, marks_le (set seen y 1), length-set seen y 1)

    -- y is marked then
    mark_same : Marked (set seen y 1) y
    mark_same = get_or-set_same seen y 1 0 (omega arith)

    -- and every other mark stays
    mark_other : (z : ℕ) → (z ≡ y → ⊥) → get_or (set seen y 1) z 0 ≡ get_or seen z 0
    mark_other z d = get_or-set_other seen y z 1 0 d

    -- y is the last of the queue
    queue_same : get_or (set queue tail y) tail 0 ≡ y
    queue_same = get_or-set_same queue tail y 0 (omega (arith, room))

    -- and those before it stay
    queue_other : (k : ℕ) → k < tail → get_or (set queue tail y) k 0 ≡ get_or queue k 0
    queue_other k l = get_or-set_other queue tail k y 0 (omega arith)

    -- what was marked is marked
    still : (z : ℕ) → Marked seen z → Marked (set seen y 1) z
    still z m = elim (ℕ_discrete z y) [ yes e ↦ rw e mark_same | no d ↦ mark_other z d ∙ m ]

    -- each marked element is queued
    listed : (z : ℕ) → z < 512 → Marked (set seen y 1) z → At (set queue tail y) (tail + 1) z
    listed z l m = elim (ℕ_discrete z y) [
      | yes e ↦ record { at = tail; early = omega arith; is = queue_same ∙ sym e }
      | no d ↦ let a = g.listed z l (sym (mark_other z d) ∙ m) in
          record { at = a.at; early = omega arith; is = queue_other a.at a.early ∙ a.is }
    ]

    -- only y is new in the queue
    last : (k : ℕ) → tail ≤ k → k < tail + 1 → get_or (set queue tail y) k 0 ≡ y
    last k l l' = let e : k ≡ tail = omega arith in rw e queue_same

    -- all that is queued is marked
    marked : (k : ℕ) → k < tail + 1 → Marked (set seen y 1) (get_or (set queue tail y) k 0)
    marked k l = elim (dec_lt k tail) [
      | yes b ↦ rw (queue_other k b) (still (get_or queue k 0) (g.marked k b))
      | no b ↦ rw (last k (omega arith) l) mark_same
    ]

    -- each mark is 0 or 1
    bits : (z : ℕ) → get_or (set seen y 1) z 0 ≤ 1
    bits z = elim (ℕ_discrete z y) [
      | yes e ↦ let s : get_or (set seen y 1) z 0 ≡ 1 = rw e mark_same in omega arith
      | no d ↦ omega (arith, mark_other z d, g.bit z)
    ]

    -- y is marked and appended
    pub grow_one : Grown (λ z. z ≡ y) seen queue tail (set seen y 1) (set queue tail y) (tail + 1)
    grow_one = record {
      good = record {
        marks = length-set seen y 1 ∙ g.marks;
        room = length-set queue tail y ∙ g.room;
        counted = omega (arith, marks_set seen y (omega arith) n);
        short = omega (arith, room);
        bit = bits;
        marked = marked;
        listed = listed;
      };
      longer = omega arith;
      kept = queue_other;
      new = last;
      still = still;
      all = λ z e. rw e mark_same;
    }

-- what is marked after is one that was marked before or that P says
pub grown_split : {P : ℕ → Type 0} {s q : List ℕ} {t : ℕ} {s' q' : List ℕ} {t' : ℕ} → Listed s q t → Grown P s q t s' q' t' → (y : ℕ) → Marked s' y → Marked s y ⊎ P y
grown_split {P} {s} {t = t} {q' = q'} g r y m =
    let a = r.good.listed y (marked_small r.good y m) m in
    elim (dec_lt a.at t) [
      | yes b ↦ inl (subst (Marked s) (sym (r.kept a.at b) ∙ a.is) (g.marked a.at b))
      | no b ↦ inr (subst P a.is (r.new a.at (omega arith) a.early))
    ]

-- P's elements first and then Q's are R's
pub grow_then : {P Q : ℕ → Type 0} (R : ℕ → Type 0) {s q : List ℕ} {t : ℕ} {s' q' : List ℕ} {t' : ℕ} {s'' q'' : List ℕ} {t'' : ℕ}
    → Grown P s q t s' q' t' → Grown Q s' q' t' s'' q'' t''
    → ((y : ℕ) → P y → R y) → ((y : ℕ) → Q y → R y) → ((y : ℕ) → R y → P y ⊎ Q y)
    → Grown R s q t s'' q'' t''
grow_then {P} {Q} R {q = q} {t} {q' = q'} {t'} {s''} {q''} {t''} a b p r c = record {
  good = b.good;
  longer = omega arith;
  kept = λ k l. b.kept k (omega arith) ∙ a.kept k l;
  new = λ k l l'. elim (dec_lt k t') [
    | yes h ↦ subst R (sym (b.kept k h)) (p (get_or q' k 0) (a.new k l h))
    | no h ↦ r (get_or q'' k 0) (b.new k (omega arith) l')
  ];
  still = λ y m. b.still y (a.still y m);
  all = λ y m. split y (c y m);
}
  where
    split : (y : ℕ) → P y ⊎ Q y → Marked s'' y
    split y (inl h) = b.still y (a.all y h)
    split y (inr h) = b.all y h

-- P and Q say the same elements
pub grow_same : {P : ℕ → Type 0} (Q : ℕ → Type 0) {s q : List ℕ} {t : ℕ} {s' q' : List ℕ} {t' : ℕ}
    → Grown P s q t s' q' t' → ((y : ℕ) → P y → Q y) → ((y : ℕ) → Q y → P y) → Grown Q s q t s' q' t'
grow_same Q {q' = q'} a p r = record {
  good = a.good;
  longer = a.longer;
  kept = a.kept;
  new = λ k l l'. p (get_or q' k 0) (a.new k l l');
  still = a.still;
  all = λ y m. a.all y (r y m);
}

-- an empty climb keeps the queue
pub kept_none : (queue : List ℕ) (tail : ℕ) → Kept queue tail queue tail
kept_none queue tail = record { longer = omega arith; kept = λ k l. refl }

-- elements are offered, and then the queue is kept: what was queued before is kept
pub kept_then : {P : ℕ → Type 0} {s q : List ℕ} {t : ℕ} {s' q' : List ℕ} {t' : ℕ} {q'' : List ℕ} {t'' : ℕ} → Grown P s q t s' q' t' → Kept q' t' q'' t'' → Kept q t q'' t''
kept_then a b = record { longer = omega arith; kept = λ k l. b.kept k (omega arith) ∙ a.kept k l }
