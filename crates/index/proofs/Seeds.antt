-- The start: the bytes of a table without assignments, where each element that is there is within itself.
-- Assumes nothing.
use mathlib.Core.Path.{◌≡◌, refl, sym, ap, ◌∙◌}
use mathlib.Core.Bool.{Bool, true, false}
use mathlib.Core.List.{List}
use mathlib.Core.Logic.{inr}
use Prim.Native.Nat.{ℕ, zero, suc, ◌+◌, ◌*◌, ◌-◌, ◌/◌, ◌%◌, ◌^◌, ◌≤◌, ◌<◌}
use native.Mathlib.Omega.{arith}
use native.Mathlib.Decide.{ℕ_discrete, dec_lt}
use borrow.Author.Tests.{eqb-true, eq-eqb, ne_eqb}
use lib.Dec.{eqb}
use lib.ListN.{length, get_or, set, replicate, length-set, length-replicate}
use lib.Seq.{get_or-set_same, get_or-set_other}
use Rattle.model.specs.Lists.{tabulate}
use Rattle.model.specs.Policy.{kind_of, is_there}
use Rattle.model.specs.Contain.{itself}
use Rattle.model.specs.Bits.{digit, odd, num_of}
use Rattle.model.proofs.Truth.{clash}
use Rattle.model.proofs.Indexed.{bit_of_byte, length_tabulate}
use Rattle.model.proofs.Image.Bits.{num_lt}
use Rattle.table.specs.View.{policy_of}
use Rattle.table.proofs.ById.{kind_outside}
use Rattle.index.specs.Rows.{On}
use Rattle.index.specs.Passes.{There, Inside, RowSeeded, Seeded, Good}
use Rattle.index.proofs.Bytes.{no_bit, sum_le}
use Rattle.index.proofs.Joins.{zeros}

-- the eight bytes with one bit
one_bit : (j : ℕ) → j < 8 → 128 / 2 ^ j ≡ num_of (tabulate 8 (eqb j))
unfolding num_of tabulate digit
one_bit zero l = refl
one_bit (suc zero) l = refl
one_bit (suc (suc zero)) l = refl
one_bit (suc (suc (suc zero))) l = refl
one_bit (suc (suc (suc (suc zero)))) l = refl
one_bit (suc (suc (suc (suc (suc zero))))) l = refl
one_bit (suc (suc (suc (suc (suc (suc zero)))))) l = refl
one_bit (suc (suc (suc (suc (suc (suc (suc zero))))))) l = refl
one_bit (suc (suc (suc (suc (suc (suc (suc (suc n)))))))) l = absurd (omega arith)

-- they are bytes
one_byte : (j : ℕ) → j < 8 → 128 / 2 ^ j < 256
one_byte j h = rw (one_bit j h) (rw (length_tabulate 8 (eqb j)) at (num_lt (tabulate 8 (eqb j))))

-- bit i of the byte whose bit is j
pub one_odd : (i j : ℕ) → i < 8 → j < 8 → odd (128 / 2 ^ j / 2 ^ (7 - i)) ≡ eqb j i
one_odd i j hi hj = rw (one_bit j hj) (bit_of_byte (eqb j) i hi)

-- it is 1 only where i is j
one_is : (i j : ℕ) → i < 8 → j < 8 → 128 / 2 ^ j / 2 ^ (7 - i) % 2 ≡ 1 → i ≡ j
unfolding odd
one_is i j hi hj e = sym (eqb-true j i (sym (one_odd i j hi hj) ∙ eq-eqb _ 1 e))

-- and there it is
one_same : (j : ℕ) → j < 8 → 128 / 2 ^ j / 2 ^ (7 - j) % 2 ≡ 1
unfolding odd
one_same j h = eqb-true _ 1 (one_odd j j h h ∙ eq-eqb j j refl)

-- an element whose kind is not 0 is there
pub kind_there : {mem : List ℕ} {x k : ℕ} → k ≡ kind_of (policy_of mem) x → (k ≡ 0 → ⊥) → There mem x
unfolding is_there
kind_there {mem} {x} e n = record { is = rw (ne_eqb (kind_of (policy_of mem) x) 0 (λ z. n (e ∙ z))) }

-- one whose kind is 0 is not
pub kind_absent : {mem : List ℕ} {x k : ℕ} → k ≡ kind_of (policy_of mem) x → k ≡ 0 → There mem x → ⊥
unfolding is_there
kind_absent {mem} {x} e z t = clash t.is (rw (eq-eqb (kind_of (policy_of mem) x) 0 (sym e ∙ z)))

-- what is there has an id below 512
pub there_small : {mem : List ℕ} {x : ℕ} → There mem x → x < 512
there_small {mem} {x} t = elim (dec_lt x 512) [
  | yes h ↦ h
  | no h ↦ absurd (kind_absent (kind_outside mem x (inr (omega arith))) refl t)
]

module _ {mem : List ℕ} {x : ℕ} {idx : List ℕ} {k : ℕ} where
  -- an element that is not there gets no bit
  pub seed_none : k ≡ kind_of (policy_of mem) x → k ≡ 0 → RowSeeded mem x idx idx
  seed_none is e = record { size = refl; own = λ t. absurd (kind_absent is e t); rest = λ i n. refl; absent = λ n. refl }

  -- one that is there gets its own
  pub seed_one : k ≡ kind_of (policy_of mem) x → (k ≡ 0 → ⊥) → length idx ≡ 32768 → x < 512
      → RowSeeded mem x idx (set idx (64 * x + x / 8) (128 / 2 ^ (x % 8)))
  seed_one is d len h = record {
    size = length-set idx (64 * x + x / 8) (128 / 2 ^ (x % 8));
    own = λ t. get_or-set_same idx (64 * x + x / 8) (128 / 2 ^ (x % 8)) 0 (omega arith);
    rest = λ i n. get_or-set_other idx (64 * x + x / 8) i (128 / 2 ^ (x % 8)) 0 n;
    absent = λ n. absurd (n (kind_there is d));
  }

-- where all bytes are zero no bit is 1
pub seeded_none : {mem idx : List ℕ} {n : ℕ} → idx ≡ replicate n 0 → n ≡ 32768 → Seeded mem 0 idx
seeded_none {mem} {idx} {n} z len = record {
  size = ap length z ∙ length-replicate n 0 ∙ len;
  bytes = λ i. omega (arith, zero_at i);
  sound = λ p. absurd (no_bit _ (rw (zero_at _) at p.is));
  start = λ t h. absurd (omega arith);
}
  where
    zero_at : (i : ℕ) → get_or idx i 0 ≡ 0
    zero_at i = rw z (zeros n i)

module _ {mem : List ℕ} {n : ℕ} {idx idx' : List ℕ} (s : Seeded mem n idx) (h : n < 512) (o : RowSeeded mem n idx idx') where
  module _ (t : There mem n) where
    -- each is a byte still
    more_bytes : (i : ℕ) → get_or idx' i 0 < 256
    more_bytes i = elim (ℕ_discrete i (64 * n + n / 8)) [
      | yes e ↦ rw (e, o.own t) (one_byte (n % 8) (omega arith))
      | no d ↦ rw (o.rest i d) (s.bytes i)
    ]

    -- the bit that came is the element's own
    more_sound : {x y : ℕ} → On idx' x y → (y ≡ x) × There mem x
    more_sound {x} {y} p = elim (ℕ_discrete (64 * x + y / 8) (64 * n + n / 8)) [
      | yes e ↦
          let l : y < 512 = p.small in
          let q : y % 8 ≡ n % 8 = one_is (y % 8) (n % 8) (omega arith) (omega arith) (rw (e, o.own t) at p.is) in
          let a : x ≡ n = omega arith in
          let b : y ≡ x = omega arith in
          (b, rw a t)
      | no d ↦ s.sound (record { small = p.small; is = rw (o.rest (64 * x + y / 8) d) at p.is })
    ]

    -- and the bits before it stay
    more_start : {x : ℕ} → There mem x → x < n + 1 → On idx' x x
    more_start {x} u l = elim (ℕ_discrete x n) [
      | yes e ↦ rw e (record { small = h; is = rw (o.own t) (one_same (n % 8) (omega arith)) })
      | no d ↦
          let b : x < n = omega (arith, d) in
          record { small = omega arith; is = rw (o.rest (64 * x + x / 8) (λ e. omega arith)) (s.start u b).is }
    ]

  -- one element more
  pub seeded_more : Seeded mem (n + 1) idx'
  seeded_more = split (is_there (policy_of mem) n) refl
    where
      split : (b : Bool) → is_there (policy_of mem) n ≡ b → Seeded mem (n + 1) idx'
      split true e =
          let t : There mem n = record { is = e } in
          record { size = o.size ∙ s.size; bytes = more_bytes t; sound = more_sound t; start = more_start t }
      split false e =
          let none : There mem n → ⊥ = λ t. clash t.is e in
          rw (o.absent none) (record { size = s.size; bytes = s.bytes; sound = s.sound; start = start none })
        where
          start : (There mem n → ⊥) → {x : ℕ} → There mem x → x < n + 1 → On idx x x
          start none {x} u l = elim (ℕ_discrete x n) [
            | yes e ↦ absurd (none (rw e at u))
            | no d ↦ s.start u (omega (arith, d))
          ]

-- all elements
pub seeded : {mem : List ℕ} {n : ℕ} {idx : List ℕ} → Seeded mem n idx → 512 ≤ n → Good mem idx
seeded {mem} {n} {idx} s end = record {
  size = s.size;
  bytes = s.bytes;
  weight = omega (arith, sum_le idx s.bytes, s.size);
  sound = inside;
  start = λ t. s.start t (omega (arith, there_small t));
}
  where
    inside : {x y : ℕ} → On idx x y → Inside mem x y
    inside {x} {y} p =
        let q = s.sound p in
        let e : y ≡ x = q.0 in
        rw e (record { there = q.1; within = itself })
