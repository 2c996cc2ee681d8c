-- From class to class in a row of bits: the class that comes next, and the bytes that are passed by.
-- Assumes nothing.
use Rattle.std.specs.Prelude.{◌≡◌, Bool, true, false, ◌&&◌, List, ℕ, ◌+◌, ◌*◌, ◌/◌, ◌≤◌, ◌<◌, eqb, leb, length, get_or, Option, MatchOption}
use Rattle.model.specs.Lists.{any_of, all_of, tabulate}
use Rattle.model.specs.Policy.{class}
use Rattle.table.specs.Layout.{kind_word}
use Rattle.table.specs.View.{policy_of}
use Rattle.rule.specs.Sight.{seen}
use Rattle.rule.specs.Parts.{class_of}

-- the byte of row x in which the bit of y stands is zero
unfoldable pub zero_byte : (rows : List ℕ) (x y : ℕ) → Bool
zero_byte rows x y = eqb (get_or rows (64 * x + y / 8) 0) 0

-- the eight bytes of row x among which the bit of y stands are all there and all zero
unfoldable pub zero_bytes : (rows : List ℕ) (x y : ℕ) → Bool
zero_bytes rows x y =
    leb (64 * x + 8 * (y / 64) + 8) (length rows) && all_of (λ b. eqb b 0) (tabulate 8 (λ k. get_or rows (64 * x + 8 * (y / 64) + k) 0))

-- the word of one of the n ids from `from` on is that of a class
unfoldable pub any_class : (mem : List ℕ) (from n : ℕ) → Bool
any_class mem from n = any_of (λ w. eqb w class) (tabulate n (λ k. kind_word mem (from + k)))

-- r is the least id from c on that is a class of the element of row x, and it is below `end`
pub record LeastClass (mem rows : List ℕ) (x c end r : ℕ) : Type 0 where
  pub from : c ≤ r
  pub early : r < end
  pub none : (y : ℕ) → c ≤ y → y < r → class_of (seen rows true x) (policy_of mem) y ≡ false
  pub its_class : class_of (seen rows true x) (policy_of mem) r ≡ true

-- the least class of the element of row x from c on, where there is one below `end`, and none where there is none
abbrev pub NextClass : (mem rows : List ℕ) (x c end : ℕ) → Option ℕ → Type 0
NextClass mem rows x c end found =
    MatchOption found ((y : ℕ) → c ≤ y → y < end → class_of (seen rows true x) (policy_of mem) y ≡ false) (LeastClass mem rows x c end)
