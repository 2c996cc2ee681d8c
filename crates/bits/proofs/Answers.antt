-- What a read answers: 12 where the bits end before it does, else the number and the next place.
-- Assumes nothing.
use mathlib.Core.Path.{◌≡◌, refl, sym, ap}
use mathlib.Core.Bool.{Bool, true, false}
use mathlib.Core.List.{List}
use Prim.Native.Nat.{ℕ, ◌+◌, ◌-◌, ◌*◌, ◌≤◌, ◌<◌}
use native.Mathlib.Omega.{arith}
use borrow.Author.Tests.{lt-ltb, le-ltb, ltb-true, ltb-false}
use lib.Dec.{ltb}
use lib.ListN.{length}
use Rattle.model.specs.Bits.{bits_of, num_at}
use Rattle.model.specs.Refusal.{refused, accepted, answer}
use Rattle.model.proofs.Image.Bits.{length_bits_of}
use Rattle.bits.specs.Cursor.{Piece, reading, Taken}

-- bits that end before the read does: 12
pub read_cut : (l : List Bool) (at n : ℕ) → length l < at + n → reading l at n ≡ refused 12
unfolding reading answer
read_cut l at n h = rw (lt-ltb (length l) (at + n) h)

-- bits that are there: the number that they spell, and the next place
pub read_there : (l : List Bool) (at n : ℕ) → at + n ≤ length l → reading l at n ≡ accepted (record { value = num_at l at n; next = at + n })
unfolding reading answer
read_there l at n h = rw (le-ltb (length l) (at + n) h)

-- a refusal is 12, and the bits end before the read does
pub read_refused : (l : List Bool) (at n k : ℕ) → reading l at n ≡ refused k → (length l < at + n) × (k ≡ 12)
read_refused l at n k e = go (ltb (length l) (at + n)) refl
  where
    go : (b : Bool) → ltb (length l) (at + n) ≡ b → (length l < at + n) × (k ≡ 12)
    go true t = let h = ltb-true (length l) (at + n) t in let q = read_cut l at n h in (h, (cc))
    go false t =
        let q = read_there l at n (ltb-false (length l) (at + n) t) in let z : ◌≡◌ {A = ℕ} 0 1 = cc in absurd (omega arith)

-- what is accepted is the number that the bits spell and the next place, and the bits are there
pub read_accepted : (l : List Bool) (at n v next : ℕ) → reading l at n ≡ accepted (record { value = v; next = next })
    → (at + n ≤ length l) × (v ≡ num_at l at n) × (next ≡ at + n)
read_accepted l at n v next e = go (ltb (length l) (at + n)) refl
  where
    go : (b : Bool) → ltb (length l) (at + n) ≡ b → (at + n ≤ length l) × (v ≡ num_at l at n) × (next ≡ at + n)
    go true t =
        let q = read_cut l at n (ltb-true (length l) (at + n) t) in let z : ◌≡◌ {A = ℕ} 0 1 = cc in absurd (omega arith)
    go false t =
        let h = ltb-false (length l) (at + n) t in
        let q = read_there l at n h in
        let x : Piece = record { value = v; next = next } in
        let y : Piece = record { value = num_at l at n; next = at + n } in
        let r : x ≡ y = cc in
        (h, ap (λ (z : Piece). z.value) r, ap (λ (z : Piece). z.next) r)

-- the place itself is past the bytes
pub cut_before : (s : List ℕ) (at n : ℕ) → 1 ≤ n → 8 * length s < at → refused 12 ≡ reading (bits_of s) at n
cut_before s at n h k = sym (read_cut (bits_of s) at n (rw (length_bits_of s) (omega arith)))

-- the bytes end within the n bits
pub cut_within : (s : List ℕ) (at n : ℕ) → at ≤ 8 * length s → 8 * length s - at < n → refused 12 ≡ reading (bits_of s) at n
cut_within s at n h k = sym (read_cut (bits_of s) at n (rw (length_bits_of s) (omega arith)))

-- what was taken is what a read answers
pub read_taken : (s : List ℕ) (at n value next : ℕ) → at ≤ 8 * length s → n ≤ 8 * length s - at → Taken s at n value next
    → accepted (record { value = value; next = next }) ≡ reading (bits_of s) at n
read_taken s at n value next h k t =
    rw (t.value_is, t.next_is) (sym (read_there (bits_of s) at n (rw (length_bits_of s) (omega arith))))
