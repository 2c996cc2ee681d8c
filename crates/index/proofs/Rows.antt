-- A row added to another, by the turns of the loop over its bytes, and a row cleared: what they do to the bits.
-- Assumes nothing.
use mathlib.Core.Path.{◌≡◌, refl, ◌∙◌}
use mathlib.Core.List.{List}
use mathlib.Core.Logic.{◌⊎◌, inl, inr, ⊎_elim}
use Prim.Native.Nat.{ℕ, ◌+◌, ◌*◌, ◌-◌, ◌/◌, ◌%◌, ◌≤◌, ◌<◌}
use native.Mathlib.Omega.{arith}
use native.Mathlib.Decide.{ℕ_discrete, dec_lt}
use lib.ListN.{length, get_or, set, length-set}
use lib.Seq.{get_or-set_same, get_or-set_other}
use Rattle.index.specs.Rows.{On, both, Added, Cleared}
use Rattle.index.proofs.Bytes.{Joined, no_bit, bit_of, bit_left, bit_right, both_more, both_byte, sum_set}

-- nothing is added yet
pub added_none : (idx : List ℕ) (a b : ℕ) → Added idx a b 0 0 idx
added_none idx a b = record {
  size = refl;
  row = λ j l. absurd (omega arith);
  below = λ i l. refl;
  above = λ i l. refl;
  grown = omega arith;
  little = omega arith;
}

module _ {idx : List ℕ} {a b k r : ℕ} {idx' : List ℕ} {v : ℕ} (len : length idx ≡ 32768) (ha : a < 512) (hb : b < 512)
    (o : Added idx a b k r idx') (hk : k < 64) (j : Joined (get_or idx' (64 * a + k) 0) (get_or idx' (64 * b + k) 0) v) where
  -- the byte of row a that is next was not touched
  old_a : get_or idx' (64 * a + k) 0 ≡ get_or idx (64 * a + k) 0
  old_a = o.above (64 * a + k) (omega arith)

  -- nor was the byte of row b, whether b is a or another row
  old_b : get_or idx' (64 * b + k) 0 ≡ get_or idx (64 * b + k) 0
  old_b = elim (dec_lt b a) [
    | yes h ↦ o.below (64 * b + k) (omega arith)
    | no h ↦ o.above (64 * b + k) (omega arith)
  ]

  -- the bytes with it stored
  new : List ℕ
  new = set idx' (64 * a + k) v

  -- row a in them
  new_row : (i : ℕ) → i < k + 1 → get_or new (64 * a + i) 0 ≡ both (get_or idx (64 * a + i) 0) (get_or idx (64 * b + i) 0)
  unfolding new
  new_row i l = elim (dec_lt i k) [
    | yes h ↦ get_or-set_other idx' (64 * a + k) (64 * a + i) v 0 (λ e. omega arith) ∙ o.row i h
    | no h ↦ let e : i ≡ k = omega arith in
        rw e (get_or-set_same idx' (64 * a + k) v 0 (omega arith) ∙ j.is ∙ rw (old_a, old_b))
  ]

  -- every other byte in them
  new_other : (i : ℕ) → (i ≡ 64 * a + k → ⊥) → get_or new i 0 ≡ get_or idx' i 0
  unfolding new
  new_other i n = get_or-set_other idx' (64 * a + k) i v 0 n

  -- one byte more is added
  pub added_more : {g : ℕ} → g ≡ v - get_or idx' (64 * a + k) 0 → Added idx a b (k + 1) (r + g) (set idx' (64 * a + k) v)
  unfolding new
  added_more e = record {
    size = length-set idx' (64 * a + k) v ∙ o.size;
    row = new_row;
    below = λ i l. new_other i (λ e. omega arith) ∙ o.below i l;
    above = λ i l. new_other i (λ e. omega arith) ∙ o.above i (omega arith);
    grown = omega (arith, sum_set idx' (64 * a + k) v (omega arith));
    little = omega arith;
  }

-- the whole row is added
pub added_end : {idx : List ℕ} {a b k r : ℕ} {idx' : List ℕ} → Added idx a b k r idx' → k ≤ 64 → 64 ≤ k → Added idx a b 64 r idx'
added_end {idx} {a} {b} {k} {r} {idx'} o h l = let e : k ≡ 64 = omega arith in rw e at o

module _ {idx : List ℕ} {a b r : ℕ} {idx' : List ℕ} (o : Added idx a b 64 r idx') where
  -- the byte of row a in which bit y stands
  byte_at : (y : ℕ) → y < 512 → get_or idx' (64 * a + y / 8) 0 ≡ both (get_or idx (64 * a + y / 8) 0) (get_or idx (64 * b + y / 8) 0)
  byte_at y l = o.row (y / 8) (omega arith)

  -- and that of another row
  byte_other : (x y : ℕ) → y < 512 → (x ≡ a → ⊥) → get_or idx' (64 * x + y / 8) 0 ≡ get_or idx (64 * x + y / 8) 0
  byte_other x y l n = elim (dec_lt x a) [
    | yes h ↦ o.below (64 * x + y / 8) (omega arith)
    | no h ↦ o.above (64 * x + y / 8) (omega (arith, n))
  ]

  -- a bit that was 1 still is
  pub on_kept : {x y : ℕ} → On idx x y → On idx' x y
  on_kept {x} {y} p = elim (ℕ_discrete x a) [
    | yes e ↦ record { small = p.small; is = rw (e, byte_at y p.small) (bit_left _ _ _ (rw e at p.is)) }
    | no n ↦ record { small = p.small; is = rw (byte_other x y p.small n) p.is }
  ]

  -- what row b says row a says too
  pub on_new : {y : ℕ} → On idx b y → On idx' a y
  on_new {y} p = record { small = p.small; is = rw (byte_at y p.small) (bit_right _ _ _ p.is) }

  -- a bit that is 1 was 1, or is of row a and comes from row b
  pub on_old : {x y : ℕ} → On idx' x y → On idx x y ⊎ ((x ≡ a) × On idx b y)
  on_old {x} {y} p = elim (ℕ_discrete x a) [
    | yes e ↦ ⊎_elim (λ q. inl (record { small = p.small; is = rw e q })) (λ q. inr (e, record { small = p.small; is = q }))
        (bit_of (get_or idx (64 * a + y / 8) 0) (get_or idx (64 * b + y / 8) 0) (7 - y % 8) (rw (e, byte_at y p.small) at p.is))
    | no n ↦ inl (record { small = p.small; is = rw (byte_other x y p.small n) at p.is })
  ]

  -- what holds of a byte that stays and of a byte that is joined holds of every byte
  bytes_by : (P : ℕ → ℕ → Type 0) → ((i : ℕ) → P (get_or idx i 0) (get_or idx i 0))
      → ((i j : ℕ) → P (get_or idx i 0) (both (get_or idx i 0) (get_or idx j 0))) → (i : ℕ) → P (get_or idx i 0) (get_or idx' i 0)
  bytes_by P s t i = elim (dec_lt i (64 * a)) [
    | yes h ↦ rw (o.below i h) (s i)
    | no h ↦ elim (dec_lt i (64 * a + 64)) [
      | yes g ↦ let e : i ≡ 64 * a + (i - 64 * a) = omega arith in rw (e, o.row (i - 64 * a) (omega arith)) (t (64 * a + (i - 64 * a)) (64 * b + (i - 64 * a)))
      | no g ↦ rw (o.above i (omega arith)) (s i)
    ]
  ]

  -- no byte falls
  pub bytes_more : (i : ℕ) → get_or idx i 0 ≤ get_or idx' i 0
  bytes_more = bytes_by (λ x y. x ≤ y) (λ i. omega arith) (λ i j. both_more _ _)

  -- bytes stay bytes
  pub bytes_still : ((i : ℕ) → get_or idx i 0 < 256) → (i : ℕ) → get_or idx' i 0 < 256
  bytes_still h = bytes_by (λ x y. y < 256) h (λ i j. both_byte _ _ (h i) (h j))

module _ {idx : List ℕ} {a : ℕ} {idx' : List ℕ} (o : Cleared idx a 64 idx') where
  -- the byte of another row
  byte_still : (x y : ℕ) → y < 512 → (x ≡ a → ⊥) → get_or idx' (64 * x + y / 8) 0 ≡ get_or idx (64 * x + y / 8) 0
  byte_still x y l n = elim (dec_lt x a) [
    | yes h ↦ o.below (64 * x + y / 8) (omega arith)
    | no h ↦ o.above (64 * x + y / 8) (omega (arith, n))
  ]

  -- row a has no bit that is 1
  pub cleared_off : {y : ℕ} → On idx' a y → ⊥
  cleared_off {y} p = no_bit (7 - y % 8) (rw (o.row (y / 8) (omega (arith, p.small))) at p.is)

  -- a bit that is 1 was 1
  pub cleared_old : {x y : ℕ} → On idx' x y → On idx x y
  cleared_old {x} {y} p = elim (ℕ_discrete x a) [
    | yes e ↦ absurd (cleared_off (rw e at p))
    | no n ↦ record { small = p.small; is = rw (byte_still x y p.small n) at p.is }
  ]

  -- a bit of another row stays
  pub cleared_kept : {x y : ℕ} → (x ≡ a → ⊥) → On idx x y → On idx' x y
  cleared_kept {x} {y} n p = record { small = p.small; is = rw (byte_still x y p.small n) p.is }

  -- no byte grows
  pub cleared_less : (i : ℕ) → get_or idx' i 0 ≤ get_or idx i 0
  cleared_less i = elim (dec_lt i (64 * a)) [
    | yes h ↦ omega (arith, o.below i h)
    | no h ↦ elim (dec_lt i (64 * a + 64)) [
      | yes g ↦ let e : i ≡ 64 * a + (i - 64 * a) = omega arith in rw e (omega (arith, o.row (i - 64 * a) (omega arith)))
      | no g ↦ omega (arith, o.above i (omega arith))
    ]
  ]
