-- Bits one after another and the numbers that they spell; a number's low bits.
-- Assumes nothing.
use mathlib.Core.Path.{◌≡◌}
use mathlib.Core.Bool.{Bool}
use mathlib.Core.List.{List, [], ◌∷◌, ◌++◌}
use Prim.Native.Nat.{ℕ, ◌+◌, ◌*◌, ◌%◌, ◌^◌, ◌<◌}
use native.Mathlib.Nat.{add_assoc, add-mul, mul_assoc}
use native.Mathlib.Omega.{arith}
use lib.Arith.{digits_div}
use lib.ListN.{length, length-append}
use lib.Pow.{pow-add}
use Rattle.model.specs.Bits.{bits_n, num_of}
use Rattle.model.proofs.Image.Bits.{length_bits_n, split, high, num_low, bits_n_num}

-- what bits and more behind them spell
pub num_append : (xs ys : List Bool) → num_of (xs ++ ys) ≡ num_of xs * 2 ^ length ys + num_of ys
unfolding num_of
num_append [] ys = omega arith
num_append (x ∷ xs) ys = rw (length-append xs ys, pow-add, num_append xs ys, add-mul, mul_assoc, add_assoc)

-- the n low bits of a number are those of its remainder by 2 ^ n
pub low : (n v : ℕ) → bits_n n (v % 2 ^ n) ≡ bits_n n v
low n v = rw (length_bits_n n v, num_low n v) at (bits_n_num (bits_n n v))

-- two numbers' bits one after another are those of one number
pub numbers_join : (m k v w : ℕ) → w < 2 ^ k → bits_n m v ++ bits_n k w ≡ bits_n (m + k) (v * 2 ^ k + w)
numbers_join m k v w h = rw (split m k (v * 2 ^ k + w), digits_div v h, high k v w)
