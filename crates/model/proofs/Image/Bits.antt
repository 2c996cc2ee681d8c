-- Bits and the numbers that they spell; bytes and their bits.
-- Assumes nothing.
use mathlib.Core.Path.{◌≡◌, refl, sym, ap, ◌∙◌}
use mathlib.Core.Bool.{Bool, true, false}
use mathlib.Core.List.{List, [], ◌∷◌, ◌++◌}
use mathlib.Core.Logic.{◌⊎◌, inl, inr, ⊎_elim}
use Prim.Native.Nat.{ℕ, zero, suc, ◌+◌, ◌*◌, ◌/◌, ◌%◌, ◌^◌, ◌≤◌, ◌<◌}
use native.Mathlib.Nat.{zero-add, suc-add, add_comm, pow-suc, mul_assoc, mul_comm, mod-one, mul-add-div_right, mul-add-mod_self_right, pow-succ', mod-eq_of_lt, lt_of_lt_of_le}
use native.Mathlib.Numerals.{one-add}
use native.Mathlib.Omega.{arith}
use lib.Arith.{digits_lt, digits_div}
use lib.Dec.{ltb}
use lib.Pow.{pow_pos, pow_mono, shr-shr, mod-pow-add}
use lib.ListN.{length, take, drop, length-append, length-take, length-drop, take-append-drop}
use lib.Seq.{length-take-le, take_at, drop_at}
use borrow.Author.Tests.{ltb-true, lt-ltb}
use Rattle.model.specs.Lists.{all_of}
use Rattle.model.specs.Bits.{digit, odd, bits_n, num_of, num_at, bits_of, bytes_of, are_bytes}
use Rattle.model.proofs.Truth.{and_cut}

two_cases : (r : ℕ) → r < 2 → (r ≡ 0) ⊎ (r ≡ 1)
two_cases zero h = inl refl
two_cases (suc zero) h = inr refl
two_cases (suc (suc r)) h = absurd (omega arith)

digit_odd : (v : ℕ) → digit (odd v) ≡ v % 2
unfolding digit odd
digit_odd v = ⊎_elim (λ e. rw e) (λ e. rw e) (two_cases (v % 2) (omega arith))

-- a digit is 0 or 1
pub digit_lt : (b : Bool) → digit b < 2
unfolding digit
digit_lt true = omega arith
digit_lt false = omega arith

odd_digit : (b : Bool) → odd (digit b) ≡ b
unfolding digit odd
odd_digit true = refl
odd_digit false = refl

odd_high : (h v : ℕ) → odd (h * 2 + v) ≡ odd v
unfolding odd
odd_high h v = rw (mul-add-mod_self_right h 2 v)

-- n bits are n
pub length_bits_n : (n v : ℕ) → length (bits_n n v) ≡ n
unfolding bits_n
length_bits_n zero v = refl
length_bits_n (suc n) v = ap suc (length_bits_n n v)

-- the m + k low bits are the m above the k low ones, and those
pub split : (m k v : ℕ) → bits_n (m + k) v ≡ bits_n m (v / 2 ^ k) ++ bits_n k v
unfolding bits_n
split zero k v = rw zero-add
split (suc m) k v = rw (suc-add m k, shr-shr v k m, add_comm k m, split m k v)

-- bits past the nth do not count
pub high : (n h v : ℕ) → bits_n n (h * 2 ^ n + v) ≡ bits_n n v
unfolding bits_n
high zero h v = refl
high (suc n) h v =
    let e : h * 2 ^ suc n ≡ h * 2 * 2 ^ n = rw (pow-suc, mul_comm (2 ^ n) 2, ← mul_assoc) in
    rw (e, mul-add-div_right (pow_pos n) (h * 2) v, odd_high h (v / 2 ^ n), high n (h * 2) v)

pub num_low : (n v : ℕ) → num_of (bits_n n v) ≡ v % 2 ^ n
unfolding num_of bits_n
num_low zero v = sym (mod-one v)
num_low (suc n) v = rw (length_bits_n n v, num_low n v, digit_odd, ← one-add n) (sym (mod-pow-add v 1 n))

-- the bits of a number that fits spell it
pub num_bits_n : (n v : ℕ) → v < 2 ^ n → num_of (bits_n n v) ≡ v
num_bits_n n v h = num_low n v ∙ mod-eq_of_lt h

-- what bits spell fits as many bits
pub num_lt : (l : List Bool) → num_of l < 2 ^ length l
unfolding num_of
num_lt [] = omega arith
num_lt (b ∷ l) = rw (pow-succ' 2 (length l)) (digits_lt (digit_lt b) (num_lt l))

-- what n bits spell is below 2 ^ n, also where fewer are there
pub spelled_lt : (l : List Bool) (at n : ℕ) → num_at l at n < 2 ^ n
unfolding num_at
spelled_lt l at n =
    let h : length (take n (drop at l)) ≤ n = rw (length-take n (drop at l)) (omega arith) in lt_of_lt_of_le (num_lt (take n (drop at l))) (pow_mono h)

-- bits are the bits of the number that they spell
pub bits_n_num : (l : List Bool) → bits_n (length l) (num_of l) ≡ l
unfolding num_of bits_n
bits_n_num [] = refl
bits_n_num (b ∷ l) = rw (digits_div (digit b) (num_lt l), odd_digit b, high (length l) (digit b) (num_of l), bits_n_num l)

-- the first n bits are the bits of the number that they spell
pub bits_n_front : (n : ℕ) (l : List Bool) → n ≤ length l → bits_n n (num_of (take n l)) ≡ take n l
bits_n_front n l h = rw (length-take-le n l h) at (bits_n_num (take n l))

-- eight bits a byte
pub length_bits_of : (s : List ℕ) → length (bits_of s) ≡ 8 * length s
unfolding bits_of
length_bits_of [] = refl
length_bits_of (b ∷ s) = rw (length-append (bits_n 8 b) (bits_of s), length_bits_n 8 b, length_bits_of s) (omega arith)

-- n bytes are n
pub length_bytes_of : (n : ℕ) (l : List Bool) → length (bytes_of n l) ≡ n
unfolding bytes_of
length_bytes_of zero l = refl
length_bytes_of (suc n) l = ap suc (length_bytes_of n (drop 8 l))

-- as many bits as bytes hold are the bits of those bytes
pub bits_of_bytes : (n : ℕ) (l : List Bool) → length l ≡ 8 * n → bits_of (bytes_of n l) ≡ l
unfolding bits_of bytes_of
bits_of_bytes zero [] e = refl
bits_of_bytes zero (b ∷ l) e = absurd (omega arith)
bits_of_bytes (suc n) l e =
    let d : length (drop 8 l) ≡ 8 * n = length-drop 8 l ∙ omega arith in
    rw (bits_n_front 8 l (omega arith), bits_of_bytes n (drop 8 l) d) (take-append-drop 8 l)

-- bytes are made of their bits
pub bytes_of_bits : (s : List ℕ) → are_bytes s ≡ true → bytes_of (length s) (bits_of s) ≡ s
unfolding bits_of bytes_of all_of
bytes_of_bits [] h = refl
bytes_of_bits (b ∷ s) h =
    let c = and_cut (ltb b 256) (are_bytes s) h in
    let e : num_of (bits_n 8 b) ≡ b = num_bits_n 8 b (ltb-true b 256 c.0) in
    rw (take_at (bits_n 8 b) (bits_of s) 8 (length_bits_n 8 b), drop_at (bits_n 8 b) (bits_of s) 8 (length_bits_n 8 b), e, bytes_of_bits s c.1)

-- what bits make are bytes
pub bytes_are : (n : ℕ) (l : List Bool) → are_bytes (bytes_of n l) ≡ true
unfolding bytes_of all_of
bytes_are zero l = refl
bytes_are (suc n) l =
    let h : length (take 8 l) ≤ 8 = rw (length-take 8 l) (omega arith) in
    rw (lt-ltb (num_of (take 8 l)) 256 (lt_of_lt_of_le (num_lt (take 8 l)) (pow_mono h))) (bytes_are n (drop 8 l))
