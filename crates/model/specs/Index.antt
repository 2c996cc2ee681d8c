-- 01, "The containment index", and the lines of the calls about containment.
-- Assumes nothing.
use Rattle.std.specs.Prelude.{Bool, not, ◌&&◌, ◌||◌, List, [], ◌∷◌, ℕ, ◌+◌, ◌*◌, ◌-◌, ◌/◌, ◌%◌, ◌^◌, eqb, get_or}
use Rattle.model.specs.Lists.{tabulate}
use Rattle.model.specs.Policy.{Policy, is_element_id, is_there}
use Rattle.model.specs.Contain.{contained}
use Rattle.model.specs.Refusal.{Line, ◌when◌, Lent, no_table, bad_index}
use Rattle.model.specs.Bits.{num_of}

-- ".. is 1 exactly when x and y exist and x is within y". "Row and column 0 are zero.": no policy that memory denotes, and no sound one, has an
-- element 0.
unfoldable pub index_bit : Policy → (x y : ℕ) → Bool
index_bit p x y = is_there p x && is_there p y && contained p x y

-- "Byte 64x + y/8, bit 7 - (y mod 8)": byte i is of x = i / 64, and its bits, the highest first, of y = i % 64 * 8 and the seven after it
unfoldable pub index_byte : Policy → (i : ℕ) → ℕ
index_byte p i = num_of (tabulate 8 (λ j. index_bit p (i / 64) (i % 64 * 8 + j)))

-- "32,768 bytes."
unfoldable pub index_of : Policy → List ℕ
index_of p = tabulate 32768 (index_byte p)

-- the bit of x and y in any bytes
unfoldable pub bit_at : List ℕ → (x y : ℕ) → Bool
bit_at idx x y = eqb (get_or idx (64 * x + y / 8) 0 / 2 ^ (7 - y % 8) % 2) 1

-- The lines of the calls that build the index and tell whether an index is the table's.
abbrev pub index_lines : Lent → List Line
index_lines m = (1 when no_table m) ∷ (2 when bad_index m) ∷ []

-- The lines of the plain containment call.
abbrev pub contain_lines : (holds_table : Bool) → Policy → (x y : ℕ) → List Line
contain_lines holds_table p x y =
    (1 when not holds_table) ∷ (2 when not (is_element_id x) || not (is_element_id y)) ∷ (4 when not (is_there p x) || not (is_there p y)) ∷ []
