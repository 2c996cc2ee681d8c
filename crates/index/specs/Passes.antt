-- The way from a table to its index: first each element is within itself, then assignment by assignment what the container is within is added for
-- the child, until nothing is added any more; last the rows of elements that are not there are cleared.
-- Assumes nothing.
use Rattle.std.specs.Prelude.{◌≡◌, true, List, ℕ, ◌+◌, ◌*◌, ◌/◌, ◌%◌, ◌^◌, ◌≤◌, ◌<◌, length, get_or}
use Rattle.model.specs.Policy.{is_there}
use Rattle.model.specs.Contain.{Within}
use Rattle.table.specs.Layout.{assignment_count, assignment_word}
use Rattle.table.specs.View.{assignments_of, policy_of}
use Rattle.table.specs.Facts.{AmongFirst}
use Rattle.index.specs.Rows.{On, sum}

-- element x is there
pub record There (mem : List ℕ) (x : ℕ) : Type 0 where
  pub is : is_there (policy_of mem) x ≡ true

-- y is there, and x, there or not, is within y
pub record Inside (mem : List ℕ) (x y : ℕ) : Type 0 where
  pub there : There mem y
  pub within : Within (assignments_of mem) x y

-- the byte in which bit (n, n) stands has just that bit if element n is there; every other byte stays, and if n is not there all do
pub record RowSeeded (mem : List ℕ) (n : ℕ) (idx idx' : List ℕ) : Type 0 where
  pub size : length idx' ≡ length idx
  pub own : There mem n → get_or idx' (64 * n + n / 8) 0 ≡ 128 / 2 ^ (n % 8)
  pub rest : (i : ℕ) → (i ≡ 64 * n + n / 8 → ⊥) → get_or idx' i 0 ≡ get_or idx i 0
  pub absent : (There mem n → ⊥) → idx' ≡ idx

-- each element below n that is there is within itself, and no other bit is 1 than that of an element that is there and itself
pub record Seeded (mem : List ℕ) (n : ℕ) (idx : List ℕ) : Type 0 where
  pub size : length idx ≡ 32768
  pub bytes : (i : ℕ) → get_or idx i 0 < 256
  pub sound : {x y : ℕ} → On idx x y → (y ≡ x) × There mem x
  pub start : {x : ℕ} → There mem x → x < n → On idx x x

-- each bit that is 1 is right, and each element that is there is within itself
pub record Good (mem idx : List ℕ) : Type 0 where
  pub size : length idx ≡ 32768
  pub bytes : (i : ℕ) → get_or idx i 0 < 256
  pub weight : sum idx ≤ 8355840
  pub sound : {x y : ℕ} → On idx x y → Inside mem x y
  pub start : {x : ℕ} → There mem x → On idx x x

-- assignment i is done: the sum has grown by r, and where it has not, the assignment adds nothing
pub record Stepped (mem : List ℕ) (i : ℕ) (idx : List ℕ) (r : ℕ) (idx' : List ℕ) : Type 0 where
  pub good : Good mem idx'
  pub grown : sum idx' ≡ sum idx + r
  pub same : r ≡ 0 → idx' ≡ idx
  pub closed : r ≡ 0 → {x y z : ℕ} → assignment_word mem i ≡ x * 512 + y → y < 512 → On idx' y z → On idx' x z

-- some assignments are done, whichever: the sum has not fallen
pub record Climbed (mem idx idx' : List ℕ) : Type 0 where
  pub good : Good mem idx'
  pub more : sum idx ≤ sum idx'

-- the first n assignments are done: where the sum has not grown, none of them adds anything
pub record Passed (mem : List ℕ) (n : ℕ) (idx : List ℕ) (r : ℕ) (idx' : List ℕ) : Type 0 where
  pub good : Good mem idx'
  pub grown : sum idx' ≡ sum idx + r
  pub closed : r ≡ 0 → {x y z : ℕ} → AmongFirst mem n x y → On idx' y z → On idx' x z

-- after a pass that made the sum grow by r: where it did not, no assignment adds anything
pub record Round (mem : List ℕ) (r : ℕ) (idx : List ℕ) : Type 0 where
  pub good : Good mem idx
  pub closed : r ≡ 0 → {x y z : ℕ} → AmongFirst mem (assignment_count mem) x y → On idx y z → On idx x z

-- a climb and a pass are done, the last of which made the sum grow by r
pub record Rounded (mem idx : List ℕ) (r : ℕ) (idx' : List ℕ) : Type 0 where
  pub round : Round mem r idx'
  pub more : sum idx + r ≤ sum idx'

-- row x, whether x is there or not, says exactly what is there and has x within it
pub record Full (mem idx : List ℕ) : Type 0 where
  pub size : length idx ≡ 32768
  pub bytes : (i : ℕ) → get_or idx i 0 < 256
  pub sound : {x y : ℕ} → On idx x y → Inside mem x y
  pub complete : {x y : ℕ} → Inside mem x y → On idx x y

-- row n is cleared if element n is not there; all others stay
pub record RowTidied (mem : List ℕ) (n : ℕ) (idx idx' : List ℕ) : Type 0 where
  pub size : length idx' ≡ length idx
  pub bytes : (i : ℕ) → get_or idx' i 0 ≤ get_or idx i 0
  pub old : {x y : ℕ} → On idx' x y → On idx x y
  pub there : {y : ℕ} → On idx' n y → There mem n
  pub kept : {x y : ℕ} → There mem x → On idx x y → On idx' x y

-- of the rows of the children of the first n assignments, those of elements that are not there are cleared; all others stay
pub record Tidied (mem : List ℕ) (n : ℕ) (idx idx' : List ℕ) : Type 0 where
  pub size : length idx' ≡ length idx
  pub bytes : (i : ℕ) → get_or idx' i 0 ≤ get_or idx i 0
  pub old : {x y : ℕ} → On idx' x y → On idx x y
  pub there : {x y z : ℕ} → AmongFirst mem n x z → On idx' x y → There mem x
  pub kept : {x y : ℕ} → There mem x → On idx x y → On idx' x y
