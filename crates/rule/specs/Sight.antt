-- Containment as rows: what a row says of an element, by the bits of an index or by the marks of a climb.
-- Assumes nothing.
use Rattle.std.specs.Prelude.{Bool, cond, ◌&&◌, List, ℕ, ltb}
use Rattle.model.specs.Index.{bit_at}

-- mark y of row x, a bit in 64 bytes a row: there are 512 marks in a row
unfoldable pub mark_at : (rows : List ℕ) (x y : ℕ) → Bool
mark_at rows x y = ltb y 512 && bit_at rows x y

-- what row x says of y: the bit of an index, or the mark of a climb
unfoldable pub seen : (rows : List ℕ) (indexed : Bool) (x y : ℕ) → Bool
seen rows indexed x y = cond indexed (bit_at rows x y) (mark_at rows x y)
