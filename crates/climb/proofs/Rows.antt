-- Rows of bits, 64 bytes a row: one bit set, and the bits of a queue's elements set in a row while their marks are cleared.
-- Assumes nothing.
use mathlib.Core.Path.{◌≡◌, refl, sym, ap, subst, ◌∙◌}
use mathlib.Core.Bool.{Bool, true, false, ◌&&◌, ◌||◌, or-false, and-false}
use mathlib.Core.List.{List}
use Prim.Native.Nat.{ℕ, ◌+◌, ◌*◌, ◌-◌, ◌/◌, ◌%◌, ◌^◌, ◌≤◌, ◌<◌}
use native.Mathlib.Omega.{arith}
use native.Mathlib.Decide.{ℕ_discrete, dec_lt}
use borrow.Author.Tests.{eqb-true, eqb-false, eq-eqb, ne_eqb}
use lib.Bits.{bit_or}
use lib.Dec.{eqb}
use lib.ListN.{length, get_or, set, take, length-set, length-take, get_or-eq_default}
use lib.Seq.{get_or-set_same, get_or-set_other, get_or-take}
use Rattle.model.specs.Lists.{any_of, tabulate}
use Rattle.model.specs.Contain.{contained}
use Rattle.model.specs.Bits.{digit, odd}
use Rattle.model.specs.Index.{bit_at}
use Rattle.model.proofs.Truth.{clash, same_truth, fails_when, and_left, and_right, or_fails, any_in, any_found}
use Rattle.table.specs.View.{policy_of}
use Rattle.table.proofs.Tabled.{in_tabulate, tabulate_in}
use Rattle.table.proofs.Loops.{any_none, any_more}
use Rattle.index.specs.Rows.{both}
use Rattle.index.proofs.Bytes.{or_bits, both_bit}
use Rattle.index.proofs.Seeds.{one_odd}
use Rattle.climb.specs.Queued.{Marked, At, Further, Blank, BitSet, RowMarked}
use Rattle.climb.proofs.Queue.{marked_small}
use Rattle.climb.proofs.Exactly.{mark_digit, digit_one}
use Rattle.climb.proofs.Onward.{first_marks}

-- in one byte, bits are told apart by their place in it
bit_in_byte : (y z : ℕ) → z / 8 ≡ y / 8 → eqb (y % 8) (z % 8) ≡ eqb z y
bit_in_byte y z h = same_truth (eqb (y % 8) (z % 8)) (eqb z y)
    (λ e. let q : y % 8 ≡ z % 8 = eqb-true (y % 8) (z % 8) e in eq-eqb z y (omega arith))
    (λ e. let q : z ≡ y = eqb-true z y e in eq-eqb (y % 8) (z % 8) (ap (λ (n : ℕ). n % 8) (sym q)))

-- a bit of the byte with the bit of y set besides
bit_joined : (v y z : ℕ) → z / 8 ≡ y / 8 → eqb (bit_or v (128 / 2 ^ (y % 8)) / 2 ^ (7 - z % 8) % 2) 1 ≡ (eqb (v / 2 ^ (7 - z % 8) % 2) 1 || eqb z y)
unfolding both odd
bit_joined v y z h =
    ap (λ (n : ℕ). eqb n 1) (both_bit v (128 / 2 ^ (y % 8)) (7 - z % 8))
    ∙ or_bits (v / 2 ^ (7 - z % 8) % 2) (128 / 2 ^ (y % 8) / 2 ^ (7 - z % 8) % 2) (omega arith) (omega arith)
    ∙ ap (λ (b : Bool). eqb (v / 2 ^ (7 - z % 8) % 2) 1 || b) (one_odd (z % 8) (y % 8) (omega arith) (omega arith) ∙ bit_in_byte y z h)

module _ (rows : List ℕ) (k y : ℕ) (small : y < 512) (fits : 64 * k + 64 ≤ length rows) (v : ℕ) where
  -- the bits of the byte that is written
  own_bit : v ≡ bit_or (get_or rows (64 * k + y / 8) 0) (128 / 2 ^ (y % 8)) → (j z : ℕ) → z < 512 → 64 * j + z / 8 ≡ 64 * k + y / 8
      → bit_at (set rows (64 * k + y / 8) v) j z ≡ (bit_at rows j z || eqb j k && eqb z y)
  unfolding bit_at
  own_bit is j z l e =
      let p : j ≡ k = omega arith in
      let q : z / 8 ≡ y / 8 = omega arith in
      rw (e, eq-eqb j k p, get_or-set_same rows (64 * k + y / 8) v 0 (omega arith), is) (bit_joined (get_or rows (64 * k + y / 8) 0) y z q)

  -- the bits of every other byte
  other_bit : (j z : ℕ) → z < 512 → (64 * j + z / 8 ≡ 64 * k + y / 8 → ⊥) → bit_at (set rows (64 * k + y / 8) v) j z ≡ (bit_at rows j z || eqb j k && eqb z y)
  unfolding bit_at
  other_bit j z l d = rw (get_or-set_other rows (64 * k + y / 8) (64 * j + z / 8) v 0 d, off) (sym (or-false _))
    where
      off : (eqb j k && eqb z y) ≡ false
      off = fails_when (eqb j k && eqb z y) (λ t.
          let p : j ≡ k = eqb-true j k (and_left (eqb j k) (eqb z y) t) in
          let q : z ≡ y = eqb-true z y (and_right (eqb j k) (eqb z y) t) in
          d (rw (p, q)))

  -- the bit of y is set in row k
  pub bit_set : v ≡ bit_or (get_or rows (64 * k + y / 8) 0) (128 / 2 ^ (y % 8)) → BitSet k y rows (set rows (64 * k + y / 8) v)
  bit_set is = record {
    size = length-set rows (64 * k + y / 8) v;
    is = λ j z l. elim (ℕ_discrete (64 * j + z / 8) (64 * k + y / 8)) [ yes e ↦ own_bit is j z l e | no d ↦ other_bit j z l d ];
  }

-- y is one of the first n of the queue
unfoldable pub early : (queue : List ℕ) (n y : ℕ) → Bool
early queue n y = any_of (eqb y) (tabulate n (λ i. get_or queue i 0))

module _ (queue : List ℕ) where
  -- none is before the first
  early_none : (y : ℕ) → early queue 0 y ≡ false
  unfolding early
  early_none y = any_none (eqb y) (λ i. get_or queue i 0)

  -- one more: one before it, or it
  early_more : (n y : ℕ) → early queue (n + 1) y ≡ (early queue n y || eqb y (get_or queue n 0))
  unfolding early
  early_more n y = any_more (eqb y) (λ i. get_or queue i 0) n

  -- one that is early stands at a place
  early_at : (n y : ℕ) → early queue n y ≡ true → At queue n y
  unfolding early
  early_at n y e =
      let f = any_found (eqb y) (tabulate n (λ i. get_or queue i 0)) e in
      let t = tabulate_in n (λ i. get_or queue i 0) f.there in
      record { at = t.at; early = t.early; is = t.is ∙ sym (eqb-true y f.it f.is) }

  -- and the other way
  at_early : (n y : ℕ) → At queue n y → early queue n y ≡ true
  unfolding early
  at_early n y a = any_in (eqb y) (in_tabulate n (λ i. get_or queue i 0) a.at a.early) (eq-eqb y (get_or queue a.at 0) (sym a.is))

-- the first n of the queue: their bits are set in row k and their marks cleared; every other bit and mark stays
pub record Moved (k : ℕ) (queue : List ℕ) (n : ℕ) (rows seen rows' seen' : List ℕ) : Type 0 where
  pub size : length rows' ≡ length rows
  pub marks : length seen' ≡ length seen
  pub is : (j y : ℕ) → y < 512 → bit_at rows' j y ≡ (bit_at rows j y || eqb j k && early queue n y)
  pub cleared : (y : ℕ) → early queue n y ≡ true → get_or seen' y 0 ≡ 0
  pub kept : (y : ℕ) → early queue n y ≡ false → get_or seen' y 0 ≡ get_or seen y 0

-- none is moved yet
pub moved_none : (k : ℕ) (queue rows seen : List ℕ) → Moved k queue 0 rows seen rows seen
moved_none k queue rows seen = record {
  size = refl;
  marks = refl;
  is = λ j y l. rw (early_none queue y, and-false (eqb j k)) (sym (or-false (bit_at rows j y)));
  cleared = λ y e. absurd (clash e (early_none queue y));
  kept = λ y e. refl;
}

-- what is set first and then besides
and_more : (a b c d : Bool) → ((a || b && c) || b && d) ≡ (a || b && (c || d))
and_more true b c d = refl
and_more false true c d = refl
and_more false false c d = refl

module _ {mem : List ℕ} {x : ℕ} {seen₀ seen queue : List ℕ} {n : ℕ} (f : Further mem x seen₀ seen queue n) where
  -- the part of the queue that is queued has n elements
  part_long : length (take n queue) ≡ n
  part_long = omega (arith, length-take n queue, f.still.good.room, f.still.good.short)

  -- its elements are the queue's
  part_at : {i : ℕ} → i < length (take n queue) → get_or (take n queue) i 0 ≡ get_or queue i 0
  part_at {i} l = get_or-take n queue i 0 (omega (arith, part_long))

  -- what is queued is below 512
  pub queued_small : {i : ℕ} → i < length (take n queue) → get_or (take n queue) i 0 < 512
  queued_small {i} l = rw (part_at l) (marked_small f.still.good (get_or queue i 0) (f.still.good.marked i (omega (arith, part_long))))

  module _ {k i : ℕ} {rows rows' seen' rows'' : List ℕ} (l : i < length (take n queue)) (m : Moved k (take n queue) i rows seen rows' seen') (s : BitSet k (get_or (take n queue) i 0) rows' rows'') where
    -- its mark is cleared, and those before stay so
    cleared_more : (y : ℕ) → early (take n queue) (i + 1) y ≡ true → get_or (set seen' (get_or (take n queue) i 0) 0) y 0 ≡ 0
    cleared_more y e = elim (ℕ_discrete y (get_or (take n queue) i 0)) [
      | yes q ↦ rw q (get_or-set_same seen' (get_or (take n queue) i 0) 0 0 (omega (arith, queued_small l, m.marks, f.still.good.marks)))
      | no d ↦
          get_or-set_other seen' (get_or (take n queue) i 0) y 0 0 d
          ∙ m.cleared y (rw (early_more (take n queue) i y, ne_eqb y (get_or (take n queue) i 0) d, or-false (early (take n queue) i y)) at e)
    ]

    -- the others are kept
    kept_more : (y : ℕ) → early (take n queue) (i + 1) y ≡ false → get_or (set seen' (get_or (take n queue) i 0) 0) y 0 ≡ get_or seen y 0
    kept_more y e =
        let o = or_fails (early (take n queue) i y) (eqb y (get_or (take n queue) i 0)) (sym (early_more (take n queue) i y) ∙ e) in
        get_or-set_other seen' (get_or (take n queue) i 0) y 0 0 (eqb-false y (get_or (take n queue) i 0) o.1) ∙ m.kept y o.0

    -- so one more is moved
    pub moved_more : Moved k (take n queue) (i + 1) rows seen rows'' (set seen' (get_or (take n queue) i 0) 0)
    moved_more = record {
      size = s.size ∙ m.size;
      marks = length-set seen' (get_or (take n queue) i 0) 0 ∙ m.marks;
      is = λ j y b. s.is j y b ∙ rw (m.is j y b, early_more (take n queue) i y) (and_more (bit_at rows j y) (eqb j k) (early (take n queue) i y) (eqb y (get_or (take n queue) i 0)));
      cleared = cleared_more;
      kept = kept_more;
    }

  module _ (b : Blank seen₀) where
    -- x is within just what is marked
    mark_is : (y : ℕ) → y < 512 → get_or seen y 0 ≡ digit (contained (policy_of mem) x y)
    mark_is y l = ap (λ (s : List ℕ). get_or s y 0) (first_marks b f) ∙ mark_digit mem x y l

    -- and just that is queued
    queued_is : (y : ℕ) → y < 512 → early (take n queue) n y ≡ contained (policy_of mem) x y
    unfolding digit
    queued_is y l = same_truth (early (take n queue) n y) (contained (policy_of mem) x y)
        (λ e.
        let a = early_at (take n queue) n y e in
        let q : get_or queue a.at 0 ≡ y = sym (get_or-take n queue a.at 0 a.early) ∙ a.is in
        digit_one (contained (policy_of mem) x y) (sym (mark_is y l) ∙ subst (Marked seen) q (f.still.good.marked a.at a.early)))
        (λ e.
        let a = f.still.good.listed y l (mark_is y l ∙ ap digit e) in
        at_early (take n queue) n y (record { at = a.at; early = a.early; is = get_or-take n queue a.at 0 a.early ∙ a.is }))

    module _ {k i : ℕ} {rows rows' seen' : List ℕ} (m : Moved k (take n queue) i rows seen rows' seen') (most : i ≤ length (take n queue)) (end : length (take n queue) ≤ i) where
      -- all are moved: row k has the bits of all that x is within
      pub moved_all : RowMarked mem x k rows rows'
      moved_all = record {
        size = m.size;
        is = λ j y l. let e : i ≡ n = omega (arith, part_long) in m.is j y l ∙ rw (e, queued_is y l) refl;
      }

      -- and no element is marked
      pub moved_blank : Blank seen'
      unfolding digit
      moved_blank = record { size = m.marks ∙ f.still.good.marks; zero_at = zero_at }
        where
          zero_at : (y : ℕ) → get_or seen' y 0 ≡ 0
          zero_at y = elim (dec_lt y 512) [
            | yes l ↦ split (early (take n queue) i y) refl l
            | no l ↦ get_or-eq_default seen' 0 {n = y} (omega (arith, m.marks, f.still.good.marks))
          ]
            where
              split : (t : Bool) → early (take n queue) i y ≡ t → y < 512 → get_or seen' y 0 ≡ 0
              split true e l = m.cleared y e
              split false e l =
                  let q : i ≡ n = omega (arith, part_long) in
                  let none : contained (policy_of mem) x y ≡ false = sym (queued_is y l) ∙ rw q at e in
                  m.kept y e ∙ mark_is y l ∙ ap digit none
