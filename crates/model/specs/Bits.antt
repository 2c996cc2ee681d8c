-- 01, "The image": "Bits fill each byte from the most significant."
-- Assumes nothing.
use Rattle.std.specs.Prelude.{Bool, true, false, List, [], ◌∷◌, ◌++◌, ℕ, zero, suc, ◌+◌, ◌*◌, ◌-◌, ◌/◌, ◌%◌, ◌^◌, eqb, ltb, length, take, drop, replicate}
use Rattle.model.specs.Lists.{all_of}

-- a bit as a number
unfoldable pub digit : Bool → ℕ
digit true = 1
digit false = 0

-- the lowest bit
unfoldable pub odd : ℕ → Bool
odd v = eqb (v % 2) 1

-- the n low bits of v, the most significant first
unfoldable pub bits_n : (n v : ℕ) → List Bool
bits_n zero v = []
bits_n (suc n) v = odd (v / 2 ^ n) ∷ bits_n n v

-- the number that bits spell, the most significant first
unfoldable pub num_of : List Bool → ℕ
num_of [] = 0
num_of (b ∷ bs) = digit b * 2 ^ length bs + num_of bs

-- the bits of bytes
unfoldable pub bits_of : List ℕ → List Bool
bits_of [] = []
bits_of (b ∷ bs) = bits_n 8 b ++ bits_of bs

-- n bytes out of bits
unfoldable pub bytes_of : ℕ → List Bool → List ℕ
bytes_of zero l = []
bytes_of (suc n) l = num_of (take 8 l) ∷ bytes_of n (drop 8 l)

-- as many bytes as bits need, "Zero bits fill the last byte."
unfoldable pub packed : List Bool → List ℕ
packed l = bytes_of ((length l + 7) / 8) (l ++ replicate ((length l + 7) / 8 * 8 - length l) false)

-- the number that n bits spell, from the place `at` on
unfoldable pub num_at : List Bool → (at n : ℕ) → ℕ
num_at l at n = num_of (take n (drop at l))

-- each is a byte
abbrev pub are_bytes : List ℕ → Bool
are_bytes s = all_of (λ b. ltb b 256) s
