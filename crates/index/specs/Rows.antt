-- The bytes of an index as rows of bits: row x is bytes 64 x to 64 x + 63, and says what x is within.
-- Assumes nothing.
use Rattle.std.specs.Prelude.{◌≡◌, List, [], ◌∷◌, ℕ, ◌+◌, ◌*◌, ◌-◌, ◌/◌, ◌%◌, ◌^◌, ◌≤◌, ◌<◌, length, get_or}
use Rattle.std.specs.Int.Bits.{bit_or}

-- bit (x, y) is 1
pub record On (idx : List ℕ) (x y : ℕ) : Type 0 where
  pub small : y < 512
  pub is : get_or idx (64 * x + y / 8) 0 / 2 ^ (7 - y % 8) % 2 ≡ 1

-- the sum of all bytes
abbrev pub sum : List ℕ → ℕ
sum [] = 0
sum (x ∷ l) = x + sum l

-- the byte with the bits of x and of y
unfoldable pub both : (x y : ℕ) → ℕ
both x y = bit_or x y

-- row b is added to row a, in its first k bytes, which makes the sum of all bytes grow by r; every other byte stays
pub record Added (idx : List ℕ) (a b k r : ℕ) (idx' : List ℕ) : Type 0 where
  pub size : length idx' ≡ length idx
  pub row : (j : ℕ) → j < k → get_or idx' (64 * a + j) 0 ≡ both (get_or idx (64 * a + j) 0) (get_or idx (64 * b + j) 0)
  pub below : (i : ℕ) → i < 64 * a → get_or idx' i 0 ≡ get_or idx i 0
  pub above : (i : ℕ) → 64 * a + k ≤ i → get_or idx' i 0 ≡ get_or idx i 0
  pub grown : sum idx' ≡ sum idx + r
  pub little : r ≤ 255 * k

-- the first k bytes of row a are 0; every other byte stays
pub record Cleared (idx : List ℕ) (a k : ℕ) (idx' : List ℕ) : Type 0 where
  pub size : length idx' ≡ length idx
  pub row : (j : ℕ) → j < k → get_or idx' (64 * a + j) 0 ≡ 0
  pub below : (i : ℕ) → i < 64 * a → get_or idx' i 0 ≡ get_or idx i 0
  pub above : (i : ℕ) → 64 * a + k ≤ i → get_or idx' i 0 ≡ get_or idx i 0

-- row x is added to a row that stands by itself, in its first k bytes; every other byte stays
pub record RowJoined (idx : List ℕ) (x k : ℕ) (row row' : List ℕ) : Type 0 where
  pub size : length row' ≡ length row
  pub done : (j : ℕ) → j < k → get_or row' j 0 ≡ both (get_or row j 0) (get_or idx (64 * x + j) 0)
  pub rest : (j : ℕ) → k ≤ j → get_or row' j 0 ≡ get_or row j 0
