-- Bits written into bytes at a place, and the bits of what stands in a table's words by its id.
-- Assumes nothing.
use Rattle.std.specs.Prelude.{◌≡◌, Bool, List, ◌++◌, ℕ, ◌+◌, length, take, drop}
use Rattle.model.specs.Lists.{one, those}
use Rattle.model.specs.Policy.{is_kind, is_element_id}
use Rattle.model.specs.Bits.{bits_n, bits_of, bytes_of}
use Rattle.model.specs.Image.{element_bits, process_bits, group_bits}
use Rattle.table.specs.Layout.{word, kind_word, user_word}
use Rattle.bits.specs.Cursor.{written}

-- the bits xs were written from the place `at` on, up to the place `next`: the bytes s became the bytes t, every other bit as it was
pub record Put (s t : List ℕ) (at : ℕ) (xs : List Bool) (next : ℕ) : Type 0 where
  pub bytes_are : t ≡ bytes_of (length s) (written (bits_of s) at xs)
  pub bits_are : bits_of t ≡ written (bits_of s) at xs
  pub long : length t ≡ length s
  pub next_is : next ≡ at + length xs

-- the bits of n words from a place on, `width` low bits of each
unfoldable pub number_bits : (mem : List ℕ) (from n width : ℕ) → List Bool
number_bits mem from n width = group_bits (bits_n width) (take n (drop from mem))

-- the bits of element x, none where it is not there
unfoldable pub element_bits_at : (mem : List ℕ) (x : ℕ) → List Bool
element_bits_at mem x = group_bits element_bits (those (λ e. is_kind e.kind) (one (record { id = x; kind = kind_word mem x })))

-- the bits of process i, none where it is not there
unfoldable pub process_bits_at : (mem : List ℕ) (i : ℕ) → List Bool
process_bits_at mem i = group_bits process_bits (those (λ q. is_element_id q.owner) (one (record { id = i; owner = user_word mem i })))

-- the bits of the first three words of the prohibition that starts at a word: the low 12 of the first, its rights, its counts
unfoldable pub limit_bits : (mem : List ℕ) (start : ℕ) → List Bool
limit_bits mem start = bits_n 12 (word mem start) ++ (bits_n 32 (word mem (start + 1)) ++ bits_n 6 (word mem (start + 2)))
