-- Bits packed into bytes: the bytes' bits are those bits and the filling, and the form is the first byte's upper half.
-- Assumes nothing.
use mathlib.Core.Path.{◌≡◌, refl, sym, ap, ◌∙◌}
use mathlib.Core.Bool.{Bool, true, false, not}
use mathlib.Core.List.{List, [], ◌∷◌, ◌++◌, append_assoc}
use Prim.Native.Nat.{ℕ, zero, suc, ◌+◌, ◌-◌, ◌*◌, ◌/◌, ◌<◌}
use native.Mathlib.Omega.{arith}
use borrow.Author.Tests.{ltb-true, not-true}
use lib.Dec.{eqb, ltb}
use lib.ListN.{length, replicate, length-append, length-replicate}
use lib.Seq.{take_at}
use Rattle.model.specs.Lists.{all_of}
use Rattle.model.specs.Bits.{bits_n, num_of, bits_of, packed, num_at, are_bytes}
use Rattle.model.specs.Image.{other_form}
use Rattle.model.proofs.Truth.{and_cut}
use Rattle.model.proofs.Image.Bits.{length_bits_n, num_bits_n, split, length_bits_of, length_bytes_of, bits_of_bytes, bytes_of_bits, bytes_are}

-- how many zero bits fill the last byte
abbrev pub filling : List Bool → ℕ
filling l = (length l + 7) / 8 * 8 - length l

-- the bits of packed bits are those bits, and fewer than eight zeros
pub bits_of_image : (l : List Bool) → (bits_of (packed l) ≡ l ++ replicate (filling l) false) × (filling l < 8)
unfolding packed
bits_of_image l =
    let e : length (l ++ replicate (filling l) false) ≡ 8 * ((length l + 7) / 8) =
    rw (length-append l (replicate (filling l) false), length-replicate (filling l) false) (omega arith) in
    (bits_of_bytes ((length l + 7) / 8) (l ++ replicate (filling l) false) e, omega arith)

-- as many bytes as bits need
pub length_packed : (l : List Bool) → length (packed l) ≡ (length l + 7) / 8
unfolding packed
length_packed l = length_bytes_of ((length l + 7) / 8) (l ++ replicate (filling l) false)

-- they are bytes
pub packed_bytes : (l : List Bool) → are_bytes (packed l) ≡ true
unfolding packed
packed_bytes l = bytes_are ((length l + 7) / 8) (l ++ replicate (filling l) false)

-- the filling is zeros
pub zeros_pass : (n : ℕ) → all_of not (replicate n false) ≡ true
unfolding all_of
zeros_pass zero = refl
zeros_pass (suc n) = zeros_pass n

-- bits that are all zeros
zeros : (l : List Bool) → all_of not l ≡ true → l ≡ replicate (length l) false
unfolding all_of
zeros [] h = refl
zeros (b ∷ l) h =
    let c = and_cut (not b) (all_of not l) h in
    λ i. not-true b c.0 i ∷ zeros l c.1 i

-- bytes whose bits are these and fewer than eight zeros are what these are packed into
pub packed_again : (s : List ℕ) (l rest : List Bool) → are_bytes s ≡ true → bits_of s ≡ l ++ rest → length rest < 8 → all_of not rest ≡ true → packed l ≡ s
unfolding packed
packed_again s l rest h e k z =
    let n : 8 * length s ≡ length l + length rest = sym (length_bits_of s) ∙ ap length e ∙ length-append l rest in
    let m : (length l + 7) / 8 ≡ length s = omega arith in
    let f : filling l ≡ length rest = omega arith in
    rw (f, m, ← zeros rest z, ← e) (bytes_of_bits s h)

-- the form is the first four bits
pub form_is : (s : List ℕ) → are_bytes s ≡ true → 0 < length s → other_form s ≡ not (eqb (num_at (bits_of s) 0 4) 1)
unfolding other_form bits_of num_at all_of
form_is [] h k = absurd (omega arith)
form_is (b ∷ s) h k =
    let c = ltb-true b 256 (and_cut (ltb b 256) (are_bytes s) h).0 in
    let e : num_of (bits_n 4 (b / 16)) ≡ b / 16 = num_bits_n 4 (b / 16) (omega arith) in
    rw (split 4 4 b, append_assoc (bits_n 4 (b / 16)) (bits_n 4 b) (bits_of s), take_at (bits_n 4 (b / 16)) (bits_n 4 b ++ bits_of s) 4 (length_bits_n 4 (b / 16)), e)
