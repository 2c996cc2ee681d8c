-- Bits within one byte of several, read and written; and that bytes stay bytes.
-- Assumes nothing.
use mathlib.Core.Path.{◌≡◌, refl, sym, ap, ◌∙◌}
use mathlib.Core.Bool.{Bool, true}
use mathlib.Core.List.{List, [], ◌∷◌, ◌++◌, append_assoc}
use Prim.Native.Nat.{ℕ, zero, suc, ◌+◌, ◌*◌, ◌/◌, ◌%◌, ◌^◌, ◌<◌}
use native.Mathlib.Nat.{add_comm, add_assoc, mod-lt}
use native.Mathlib.Omega.{arith}
use borrow.Author.Tests.{lt-ltb}
use lib.Arith.{digits_lt, digits_div}
use lib.Dec.{ltb}
use lib.ListN.{length, take, drop, get_or, set, length-append}
use lib.Pow.{pow_pos, pow-add, shr_lt, shr-shr}
use lib.Seq.{length-take-le, split_at, set_split}
use Rattle.model.specs.Bits.{bits_n, bits_of, num_at, are_bytes}
use Rattle.model.specs.Lists.{all_of}
use Rattle.model.proofs.Truth.{and_cut, and_join}
use Rattle.model.proofs.Image.Bits.{length_bits_n, split, length_bits_of, num_low, high}
use Rattle.bits.specs.Cursor.{written}
use Rattle.bits.proofs.Spelling.{low}
use Rattle.bits.proofs.Places.{middle, write_middle}

-- the bits of bytes and more bytes behind them
pub bits_append : (s t : List ℕ) → bits_of (s ++ t) ≡ bits_of s ++ bits_of t
unfolding bits_of
bits_append [] t = refl
bits_append (b ∷ s) t = rw (bits_append s t, append_assoc (bits_n 8 b) (bits_of s) (bits_of t))

-- a byte's bits stand between those of the bytes before and behind it
bits_around : (s : List ℕ) (i : ℕ) → i < length s → bits_of s ≡ bits_of (take i s) ++ (bits_n 8 (get_or s i 0) ++ bits_of (drop (suc i) s))
unfolding bits_of
bits_around s i h = ap bits_of (split_at s i 0 h) ∙ bits_append (take i s) (get_or s i 0 ∷ drop (suc i) s)

-- the bits where a byte is put in the place of another
bits_set : (s : List ℕ) (i b : ℕ) → i < length s → bits_of (set s i b) ≡ bits_of (take i s) ++ (bits_n 8 b ++ bits_of (drop (suc i) s))
unfolding bits_of
bits_set s i b h = ap bits_of (set_split s i b h) ∙ bits_append (take i s) (b ∷ drop (suc i) s)

-- a byte's bits in three parts, of o, t and k bits
three_parts : (o t k b : ℕ) → o + (t + k) ≡ 8 → bits_n 8 b ≡ bits_n o (b / 2 ^ (t + k)) ++ (bits_n t (b / 2 ^ k) ++ bits_n k b)
three_parts o t k b e = ap (λ (n : ℕ). bits_n n b) (sym e) ∙ split o (t + k) b ∙ rw (split t k b)

-- the byte b with c in the place of its t bits above its k low ones
abbrev pub patched : (b t k c : ℕ) → ℕ
patched b t k c = (b / 2 ^ (t + k) * 2 ^ t + c) * 2 ^ k + b % 2 ^ k

-- its bits in three parts
patched_parts : (o t k b c : ℕ) → o + (t + k) ≡ 8 → c < 2 ^ t → bits_n 8 (patched b t k c) ≡ bits_n o (b / 2 ^ (t + k)) ++ (bits_n t c ++ bits_n k b)
patched_parts o t k b c e h = joined (b / 2 ^ (t + k)) (b % 2 ^ k) (mod-lt b (pow_pos k)) ∙ rw (low k b)
  where
    joined : (q r : ℕ) → r < 2 ^ k → bits_n 8 ((q * 2 ^ t + c) * 2 ^ k + r) ≡ bits_n o q ++ (bits_n t c ++ bits_n k r)
    joined q r l =
        let x : ℕ = (q * 2 ^ t + c) * 2 ^ k + r in
        let e1 : x / 2 ^ k ≡ q * 2 ^ t + c = digits_div (q * 2 ^ t + c) l in
        let e2 : x / 2 ^ (t + k) ≡ q = rw (add_comm t k, ← shr-shr x k t, e1) (digits_div q h) in
        three_parts o t k x e ∙ rw (e2, e1, high t q c, high k (q * 2 ^ t + c) r)

-- t bits within the byte i, o bits before them and k behind
module _ (s : List ℕ) (i o t k : ℕ) (h : i < length s) (e : o + (t + k) ≡ 8) where
  -- the bits before them, those of the bytes before and o more
  length_before : (x : ℕ) → length (bits_of (take i s) ++ bits_n o x) ≡ 8 * i + o
  length_before x = rw (length-append (bits_of (take i s)) (bits_n o x), length_bits_of (take i s), length-take-le i s (omega arith), length_bits_n o x)

  -- bytes of which the byte i is b, with the t bits in the middle
  around : (b : ℕ) → bits_of (take i s) ++ (bits_n 8 b ++ bits_of (drop (suc i) s))
      ≡ (bits_of (take i s) ++ bits_n o (b / 2 ^ (t + k))) ++ (bits_n t (b / 2 ^ k) ++ (bits_n k b ++ bits_of (drop (suc i) s)))
  around b = rw (three_parts o t k b e) (simp append_assoc)

  -- the number that they spell
  pub read_byte : num_at (bits_of s) (8 * i + o) t ≡ get_or s i 0 / 2 ^ k % 2 ^ t
  unfolding num_at
  read_byte =
      let b = get_or s i 0 in
      rw (bits_around s i h, around b, middle (bits_of (take i s) ++ bits_n o (b / 2 ^ (t + k))) (bits_n t (b / 2 ^ k)) (bits_n k b ++ bits_of (drop (suc i) s)) (8 * i + o) t (length_before (b / 2 ^ (t + k))) (length_bits_n t (b / 2 ^ k)))
      (num_low t (b / 2 ^ k))

  -- the byte with c in their place is a write of c there
  pub write_byte : (c : ℕ) → c < 2 ^ t → bits_of (set s i (patched (get_or s i 0) t k c)) ≡ written (bits_of s) (8 * i + o) (bits_n t c)
  write_byte c hc =
      let b : ℕ = get_or s i 0 in
      let q : ℕ = b / 2 ^ (t + k) in
      let r : List Bool = bits_of (drop (suc i) s) in
      bits_set s i (patched b t k c) h
      ∙ rw (patched_parts o t k b c e hc) (simp append_assoc)
      ∙ sym (write_middle (bits_of (take i s) ++ bits_n o q) (bits_n t (b / 2 ^ k)) (bits_n k b ++ r) (bits_n t c) (8 * i + o) (length_before q) (length_bits_n t (b / 2 ^ k) ∙ sym (length_bits_n t c)))
      ∙ ap (λ (z : List Bool). written z (8 * i + o) (bits_n t c)) (sym (bits_around s i h ∙ around b))

-- a byte's upper bits with c behind them fit as many bits
pub upper_lt : (o t k b c : ℕ) → o + (t + k) ≡ 8 → b < 2 ^ 8 → c < 2 ^ t → b / 2 ^ (t + k) * 2 ^ t + c < 2 ^ (o + t)
upper_lt o t k b c e hb hc = rw (pow-add 2 o t) (digits_lt (shr_lt o (t + k) (rw e hb)) hc)

-- a byte that is patched is a byte
pub patched_lt : (o t k b c : ℕ) → o + (t + k) ≡ 8 → b < 2 ^ 8 → c < 2 ^ t → patched b t k c < 2 ^ 8
patched_lt o t k b c e hb hc =
    let p : 2 ^ (o + t) * 2 ^ k ≡ 2 ^ 8 = sym (pow-add 2 (o + t) k) ∙ rw (add_assoc o t k, e) in
    rw p at (digits_lt (upper_lt o t k b c e hb hc) (mod-lt b (pow_pos k)))

-- numbers that are each below 256 are bytes
pub bytes_known : (s : List ℕ) → ((i : ℕ) → get_or s i 0 < 2 ^ 8) → are_bytes s ≡ true
unfolding all_of
bytes_known [] h = refl
bytes_known (b ∷ s) h = and_join (ltb b 256) (are_bytes s) (lt-ltb b 256 (h 0)) (bytes_known s (λ i. h (suc i)))

-- bytes with a byte in the place of another are bytes
pub bytes_set : (s : List ℕ) (i b : ℕ) → are_bytes s ≡ true → b < 2 ^ 8 → are_bytes (set s i b) ≡ true
unfolding all_of
bytes_set [] i b h l = refl
bytes_set (a ∷ s) zero b h l = let c = and_cut (ltb a 256) (are_bytes s) h in and_join (ltb b 256) (are_bytes s) (lt-ltb b 256 l) c.1
bytes_set (a ∷ s) (suc i) b h l =
    let c = and_cut (ltb a 256) (are_bytes s) h in and_join (ltb a 256) (are_bytes (set s i b)) c.0 (bytes_set s i b c.1 l)
