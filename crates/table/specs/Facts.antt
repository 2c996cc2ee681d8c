-- What holds of memory that holds a table, as facts that the functions below the public calls ask for.
-- Assumes nothing.
use Rattle.std.specs.Prelude.{◌≡◌, List, ℕ, ◌+◌, ◌*◌, ◌≤◌, ◌<◌, length}
use Rattle.table.specs.Layout.{word_count, mark, word, assignment_count, association_count, prohibition_count, assignment_word, prohibition_start}
use Rattle.table.specs.View.{inclusion_count, exclusion_count}

-- the lists of a prohibition are short
pub record ShortLists (mem : List ℕ) (start : ℕ) : Type 0 where
  pub few_inclusions : inclusion_count mem start ≤ 4
  pub few_exclusions : exclusion_count mem start ≤ 4

-- the memory holds a table
pub record Table (mem : List ℕ) : Type 0 where
  pub size : length mem ≡ word_count
  pub marked : word mem 0 ≡ mark
  pub few_assignments : assignment_count mem ≤ 2000
  pub few_associations : association_count mem ≤ 1000
  pub few_prohibitions : prohibition_count mem ≤ 200
  pub rising : (i j : ℕ) → i < j → j < assignment_count mem → assignment_word mem i < assignment_word mem j
  pub small : (i : ℕ) → i < assignment_count mem → assignment_word mem i < 262144
  pub short : (i : ℕ) → i < prohibition_count mem → ShortLists mem (prohibition_start i)

-- r is the place of the first assignment whose child is x or above
pub record FirstOf (mem : List ℕ) (x r : ℕ) : Type 0 where
  pub inside : r ≤ assignment_count mem
  pub before : (i : ℕ) → i < r → assignment_word mem i < x * 512
  pub from : (i : ℕ) → r ≤ i → i < assignment_count mem → x * 512 ≤ assignment_word mem i

-- one of the first n assignments has x for its child and y for its container
pub record AmongFirst (mem : List ℕ) (n x y : ℕ) : Type 0 where
  pub at : ℕ
  pub early : at < n
  pub is : assignment_word mem at ≡ x * 512 + y
  pub small : y < 512

-- r is the number n, which is at most `most`
pub record AtMost (n most r : ℕ) : Type 0 where
  pub is : r ≡ n
  pub few : r ≤ most
