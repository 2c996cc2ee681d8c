-- Numbers in bits at a place: what a read there answers, and what the bits are after a write there.
-- Assumes nothing.
use Rattle.std.specs.Prelude.{◌≡◌, Option, Some, None, Bool, List, [], ◌∷◌, ◌++◌, ℕ, ◌+◌, ◌*◌, ◌^◌, ◌≤◌, ◌<◌, ltb, length, take, drop}
use Rattle.model.specs.Bits.{bits_n, bits_of, bytes_of, num_at}
use Rattle.model.specs.Refusal.{Line, ◌when◌, Answer, refused, accepted, answer}
use Rattle.bits.specs.declared.Bits.{Bits}

-- what a read gives: the number that the bits spell, and the place of the next bit
pub record Piece : Type 0 where
  pub value : ℕ
  pub next : ℕ

-- the one line of a read of n bits from the place `at` on: 12, the bits end before that
abbrev pub read_lines : List Bool → (at n : ℕ) → List Line
read_lines l at n = (12 when ltb (length l) (at + n)) ∷ []

-- what a read of n bits from the place `at` on answers
unfoldable pub reading : List Bool → (at n : ℕ) → Answer Piece
reading l at n = answer (read_lines l at n) (record { value = num_at l at n; next = at + n })

-- the answer that a read's two cases stand for: a number and the place behind it, or refusal 12
abbrev pub told : Option Bits → Answer Piece
told (Some b) = accepted (record { value = b.value; next = b.next.at })
told None = refused 12

-- the bits with others in their place, from the place `at` on
unfoldable pub written : List Bool → (at : ℕ) → List Bool → List Bool
written l at xs = take at l ++ (xs ++ drop (at + length xs) l)

-- the bytes s have n bits from the place `at` on, 1 to 32, and are few enough that their bits can be counted
pub record There (s : List ℕ) (at n : ℕ) : Type 0 where
  pub some : 1 ≤ n
  pub width : n ≤ 32
  pub room : at + n ≤ 8 * length s
  pub few : length s ≤ 2 ^ 32

-- the n bits of the bytes s from the place `at` on were taken: the number that they spell, and the place of the next bit
pub record Taken (s : List ℕ) (at n value next : ℕ) : Type 0 where
  pub value_is : value ≡ num_at (bits_of s) at n
  pub next_is : next ≡ at + n
  pub small : value < 2 ^ n

-- the n low bits of v were written from the place `at` on: the bytes s became the bytes t, every other bit as it was
pub record Written (s t : List ℕ) (at n v next : ℕ) : Type 0 where
  pub bytes_are : t ≡ bytes_of (length s) (written (bits_of s) at (bits_n n v))
  pub bits_are : bits_of t ≡ written (bits_of s) at (bits_n n v)
  pub long : length t ≡ length s
  pub next_is : next ≡ at + n
