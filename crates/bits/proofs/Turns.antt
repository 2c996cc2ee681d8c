-- What the functions do in each of their steps: the masks, a byte patched, and a turn of the loop that takes and of the loop that writes.
-- Assumes nothing.
use mathlib.Core.Path.{◌≡◌, refl, sym, ap, ◌∙◌}
use mathlib.Core.Bool.{Bool, true}
use mathlib.Core.List.{List}
use Prim.Native.Nat.{ℕ, ◌+◌, ◌-◌, ◌*◌, ◌/◌, ◌%◌, ◌^◌, ◌≤◌, ◌<◌}
use native.Mathlib.Nat.{mod-lt, one-mul, div-one, lt_of_lt_of_le, lt_trans}
use native.Mathlib.Omega.{arith}
use lib.Bits.{bit_and, and_mask}
use lib.Dec.{lit<}
use lib.ListN.{length, get_or, set, length-set}
use lib.Arith.{digits_lt}
use lib.Pow.{pow_pos, pow_mono, pow-add, shl_exact, shr-shr}
use Rattle.model.specs.Bits.{bits_n, bits_of, num_at, are_bytes}
use Rattle.model.proofs.Image.Bits.{length_bits_n, split, length_bits_of, bytes_of_bits, bytes_are, spelled_lt}
use Rattle.bits.specs.Cursor.{written, There, Taken, Written}
use Rattle.bits.proofs.Spelling.{low}
use Rattle.bits.proofs.Places.{reads_join, read_none, write_none, writes_join}
use Rattle.bits.proofs.InBytes.{patched, upper_lt, patched_lt, read_byte, write_byte, bytes_known, bytes_set}

-- 1 shifted by less than 32 bits stays whole
shifted : (t : ℕ) → t < 32 → (1 * 2 ^ t) % 2 ^ 32 ≡ 2 ^ t
shifted t h = shl_exact {a = 1} 1 t 32 (lit< tt) (omega arith) ∙ one-mul (2 ^ t)

-- and is at least 1
pub shifted_some : (t : ℕ) → t < 32 → 1 ≤ (1 * 2 ^ t) % 2 ^ 32
shifted_some t h = rw (shifted t h) (pow_pos t)

-- a mask of t bits leaves the remainder by 2 ^ t
pub masked : (x t : ℕ) → t < 32 → bit_and x ((1 * 2 ^ t) % 2 ^ 32 - 1) ≡ x % 2 ^ t
masked x t h = rw (shifted t h) (and_mask x t)

-- t bits are below 2 ^ t
pub chunk_lt : (x k t c : ℕ) → c ≡ x / 2 ^ k % 2 ^ t → c < 2 ^ t
chunk_lt x k t c e = rw e (mod-lt (x / 2 ^ k) (pow_pos t))

-- A byte patched, by the numbers that its steps give: w the byte, x its upper bits with c behind them, y its low bits.
module _ (b k t c w : ℕ) (w-is : w ≡ b) (byte : b < 2 ^ 8) (fits : t + k ≤ 8) (small : c < 2 ^ t) where
  -- the upper bits with c behind them fit 32 bits
  pub upper_fits : w / 2 ^ (t + k) * 2 ^ t + c < 2 ^ 32
  upper_fits =
      let e : 8 - (t + k) + (t + k) ≡ 8 = omega arith in
      let h : 8 - (t + k) + t ≤ 32 = omega arith in
      rw w-is (lt_of_lt_of_le (upper_lt (8 - (t + k)) t k b c e byte small) (pow_mono h))

  module _ (x y : ℕ) (x-is : x ≡ w / 2 ^ (t + k) * 2 ^ t + c) (y-is : y ≡ w / 2 ^ 0 % 2 ^ k) where
    -- with the low bits behind those it is the patched byte
    pub patched_is : (z : ℕ) → z ≡ x * 2 ^ k + y → z ≡ patched b t k c
    patched_is z e = rw (e, x-is, y-is, w-is, div-one b)

    -- which is a byte
    pub patched_byte : (z : ℕ) → z ≡ x * 2 ^ k + y → z < 2 ^ 8
    patched_byte z e =
        let o : 8 - (t + k) + (t + k) ≡ 8 = omega arith in
        rw (patched_is z e) (patched_lt (8 - (t + k)) t k b c o byte small)

    -- and fits 32 bits
    pub patched_fits : x * 2 ^ k + y < 2 ^ 32
    patched_fits = lt_trans (patched_byte (x * 2 ^ k + y) refl) (lit< tt)

-- Before the first turn nothing is taken.
pub take_start : (s : List ℕ) (at n : ℕ) → Taken s at (n - n) 0 at
take_start s at n =
    let e : n - n ≡ 0 = omega arith in
    record { value_is = rw e (sym (read_none (bits_of s) at)); next_is = omega arith; small = pow_pos (n - n) }

-- The number so far with t bits behind it fits 32 bits.
pub take_fits : (n left value t x k c : ℕ) → value < 2 ^ (n - left) → left ≤ n → n ≤ 32 → t ≤ left → c ≡ x / 2 ^ k % 2 ^ t → value * 2 ^ t + c < 2 ^ 32
take_fits n left value t x k c small some wide more c-is =
    let h : n - left + t ≤ 32 = omega arith in
    lt_of_lt_of_le (rw (← pow-add 2 (n - left) t) at (digits_lt small (chunk_lt x k t c c-is))) (pow_mono h)

-- A turn that takes: t bits, within the byte w, behind those taken.
pub take_turn : (s : List ℕ) (at n left value p t w c value' : ℕ) → left ≤ n → There s at n → Taken s at (n - left) value p → 0 < t → t ≤ 8 - p % 8 → t ≤ left
    → w ≡ get_or s (p / 8) 0 → c ≡ w / 2 ^ (8 - p % 8 - t) % 2 ^ t → value' ≡ value * 2 ^ t + c
    → Taken s at (n - (left - t)) value' (p + t)
take_turn s at n left value p t w c value' some there before pos part more w-is c-is value_is =
    let m : ℕ = n - left in
    let long : length (bits_of s) ≡ 8 * length s = length_bits_of s in
    let e1 : n - (left - t) ≡ m + t = omega arith in
    let e2 : 8 * (p / 8) + p % 8 ≡ at + m = omega arith in
    let r : num_at (bits_of s) (8 * (p / 8) + p % 8) t ≡ get_or s (p / 8) 0 / 2 ^ (8 - p % 8 - t) % 2 ^ t =
    read_byte s (p / 8) (p % 8) t (8 - p % 8 - t) (omega arith) (omega arith) in
    let v : value' ≡ num_at (bits_of s) at (n - (left - t)) =
    rw (value_is, before.value_is, c-is, w-is, e1, ← r, e2) (sym (reads_join (bits_of s) at m t (omega arith))) in
    record { value_is = v; next_is = omega arith; small = rw v (spelled_lt (bits_of s) at (n - (left - t))) }

-- After the last turn all are taken.
pub take_end : (s : List ℕ) (at n left value p : ℕ) → left ≤ 0 → Taken s at (n - left) value p → Taken s at n value p
take_end s at n left value p e h = let k : n - left ≡ n = omega arith in rw k at h

-- bytes that have the bits of a write are the bytes of a write
pub bytes_written : (s t : List ℕ) (at n v next : ℕ) → are_bytes t ≡ true → length t ≡ length s → bits_of t ≡ written (bits_of s) at (bits_n n v) → next ≡ at + n
    → Written s t at n v next
bytes_written s t at n v next h long e next_is = record {
  bytes_are = sym (bytes_of_bits t h) ∙ rw (long, e);
  bits_are = e;
  long = long;
  next_is = next_is;
}

-- Before the first turn nothing is written.
pub write_start : (s : List ℕ) (at n v : ℕ) → ((i : ℕ) → get_or s i 0 < 2 ^ 8) → Written s s at (n - n) (v / 2 ^ n) at
unfolding bits_n
write_start s at n v h =
    let e : n - n ≡ 0 = omega arith in
    bytes_written s s at (n - n) (v / 2 ^ n) at (bytes_known s h) refl (rw e (sym (write_none (bits_of s) at))) (omega arith)

-- A turn that writes: t bits, within one byte, behind those written.
pub write_turn : (s₀ s : List ℕ) (at n v left p t c b : ℕ) → left ≤ n → There s₀ at n → Written s₀ s at (n - left) (v / 2 ^ left) p → 0 < t → t ≤ 8 - p % 8 → t ≤ left
    → c ≡ v / 2 ^ (left - t) % 2 ^ t → b < 2 ^ 8 → b ≡ patched (get_or s (p / 8) 0) t (8 - p % 8 - t) c
    → Written s₀ (set s (p / 8) b) at (n - (left - t)) (v / 2 ^ (left - t)) (p + t)
write_turn s₀ s at n v left p t c b some there before pos part more c-is small b-is =
    let m : ℕ = n - left in
    let w : ℕ = v / 2 ^ (left - t) in
    let L : List Bool = bits_of s₀ in
    let X : List Bool = bits_n m (v / 2 ^ left) in
    let lx : length X ≡ m = length_bits_n m (v / 2 ^ left) in
    let lL : length L ≡ 8 * length s₀ = length_bits_of s₀ in
    let e1 : n - (left - t) ≡ m + t = omega arith in
    let e2 : 8 * (p / 8) + p % 8 ≡ at + length X = omega arith in
    let e3 : v / 2 ^ left ≡ w / 2 ^ t = ap (λ (j : ℕ). v / 2 ^ j) (omega arith) ∙ sym (shr-shr v (left - t) t) in
    let bytes : are_bytes s ≡ true = rw before.bytes_are (bytes_are (length s₀) (written L at X)) in
    let bits : bits_of (set s (p / 8) b) ≡ written L at (bits_n (n - (left - t)) w) =
    rw (b-is, c-is)
    (write_byte s (p / 8) (p % 8) t (8 - p % 8 - t) (omega arith) (omega arith) (w % 2 ^ t) (mod-lt w (pow_pos t))
    ∙ rw (low t w, e2, before.bits_are, writes_join L at X (omega arith) (bits_n t w), e1, split m t w, e3)) in
    bytes_written s₀ (set s (p / 8) b) at (n - (left - t)) w (p + t) (bytes_set s (p / 8) b bytes small) (simp length-set before.long) bits (omega arith)

-- After the last turn all are written.
pub write_end : (s t : List ℕ) (at n v left p : ℕ) → left ≤ 0 → Written s t at (n - left) (v / 2 ^ left) p → Written s t at n v p
write_end s t at n v left p e h =
    let z : left ≡ 0 = omega arith in
    let k : n - 0 ≡ n = omega arith in
    rw (z, k, div-one v) at h
