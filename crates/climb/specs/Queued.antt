-- What the marks and the queue keep while the climb goes on: the contracts of its steps cite these.
-- Assumes nothing.
use Rattle.std.specs.Prelude.{◌≡◌, ◌&&◌, ◌||◌, List, [], ◌∷◌, ℕ, zero, suc, ◌+◌, ◌≤◌, ◌<◌, eqb, length, get_or}
use Rattle.model.specs.Contain.{Within, contained}
use Rattle.model.specs.Index.{bit_at}
use Rattle.table.specs.Layout.{assignment_count}
use Rattle.table.specs.View.{policy_of}
use Rattle.table.specs.Facts.{AmongFirst}
use Rattle.climb.specs.Marking.{also_marks}

-- some assignment of the table has x for its child and y for its container
abbrev pub Container : List ℕ → (x y : ℕ) → Type 0
Container mem x y = AmongFirst mem (assignment_count mem) x y

-- y is marked
abbrev pub Marked : (seen : List ℕ) (y : ℕ) → Type 0
Marked seen y = get_or seen y 0 ≡ 1

-- 1 for a 1, else 0
abbrev pub is_one : ℕ → ℕ
is_one zero = 0
is_one (suc zero) = 1
is_one (suc (suc n)) = 0

-- how many are marked
abbrev pub mark_count : (seen : List ℕ) → ℕ
mark_count [] = 0
mark_count (m ∷ seen) = is_one m + mark_count seen

-- y is one of the first n of the queue
pub record At (queue : List ℕ) (n y : ℕ) : Type 0 where
  pub at : ℕ
  pub early : at < n
  pub is : get_or queue at 0 ≡ y

-- each mark is 0 or 1, and the first `tail` of the queue are the marked elements, each once
pub record Listed (seen queue : List ℕ) (tail : ℕ) : Type 0 where
  pub marks : length seen ≡ 512
  pub room : length queue ≡ 512
  pub counted : mark_count seen ≡ tail
  pub short : tail ≤ 512
  pub bit : (y : ℕ) → get_or seen y 0 ≤ 1
  pub marked : (k : ℕ) → k < tail → Marked seen (get_or queue k 0)
  pub listed : (y : ℕ) → y < 512 → Marked seen y → At queue tail y

-- from the marks and the queue before to those after, every element that P says is marked, and nothing else is added
pub record Grown (P : ℕ → Type 0) (seen queue : List ℕ) (tail : ℕ) (seen' queue' : List ℕ) (tail' : ℕ) : Type 0 where
  pub good : Listed seen' queue' tail'
  pub longer : tail ≤ tail'
  pub kept : (k : ℕ) → k < tail → get_or queue' k 0 ≡ get_or queue k 0
  pub new : (k : ℕ) → tail ≤ k → k < tail' → P (get_or queue' k 0)
  pub still : (y : ℕ) → Marked seen y → Marked seen' y
  pub all : (y : ℕ) → P y → Marked seen' y

-- the climb stands at `head`: each container of an element before `head` is marked
pub record Front (mem seen queue : List ℕ) (head tail : ℕ) : Type 0 where
  pub good : Listed seen queue tail
  pub order : head ≤ tail
  pub closed : (k : ℕ) → k < head → (y : ℕ) → Container mem (get_or queue k 0) y → Marked seen y

-- the first `tail` of the queue are the marked elements, and each container of a marked element is marked
pub record Closed (mem seen queue : List ℕ) (tail : ℕ) : Type 0 where
  pub good : Listed seen queue tail
  pub closed : (x y : ℕ) → x < 512 → Marked seen x → Container mem x y → Marked seen y

-- some marked element is within y
pub record FromMarked (mem seen : List ℕ) (y : ℕ) : Type 0 where
  pub start : ℕ
  pub marked : Marked seen start
  pub leads : Within (policy_of mem).assignments start y

-- the climb is over: all that an element marked before is within is marked, and nothing else
pub record Climbed (mem seen seen' queue' : List ℕ) (tail' : ℕ) : Type 0 where
  pub still : Closed mem seen' queue' tail'
  pub all : (x y : ℕ) → Marked seen x → Within (policy_of mem).assignments x y → Marked seen' y
  pub only : (y : ℕ) → Marked seen' y → FromMarked mem seen y

-- all that x is within is marked besides, and nothing else
pub record Further (mem : List ℕ) (x : ℕ) (seen seen' queue' : List ℕ) (tail' : ℕ) : Type 0 where
  pub marks : seen' ≡ also_marks mem seen x
  pub still : Closed mem seen' queue' tail'

-- the first `tail` places of the queue are kept: what is queued besides stands behind them
pub record Kept (queue : List ℕ) (tail : ℕ) (queue' : List ℕ) (tail' : ℕ) : Type 0 where
  pub longer : tail ≤ tail'
  pub kept : (k : ℕ) → k < tail → get_or queue' k 0 ≡ get_or queue k 0

-- no element is marked
pub record Blank (seen : List ℕ) : Type 0 where
  pub size : length seen ≡ 512
  pub zero_at : (y : ℕ) → get_or seen y 0 ≡ 0

-- the bit of y in row k is set, 64 bytes a row, and every other bit stays
pub record BitSet (k y : ℕ) (rows rows' : List ℕ) : Type 0 where
  pub size : length rows' ≡ length rows
  pub is : (j z : ℕ) → z < 512 → bit_at rows' j z ≡ (bit_at rows j z || eqb j k && eqb z y)

-- in row k the bits of all that x is within are set, 64 bytes a row, and every other bit stays
pub record RowMarked (mem : List ℕ) (x k : ℕ) (rows rows' : List ℕ) : Type 0 where
  pub size : length rows' ≡ length rows
  pub is : (j y : ℕ) → y < 512 → bit_at rows' j y ≡ (bit_at rows j y || eqb j k && contained (policy_of mem) x y)
