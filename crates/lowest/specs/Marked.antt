-- Associations that rise: the first that authorizes a right in a class is the lowest there, and what is marked is where one is named.
-- Assumes nothing.
use Rattle.std.specs.Prelude.{◌≡◌, Bool, List, ◌⊎◌, ℕ, zero, suc, ◌≤◌, ◌<◌, length, get_or}
use Rattle.model.specs.Lists.{rising}
use Rattle.model.specs.Policy.{association_fields}
use Rattle.table.specs.View.{policy_of}
use Rattle.climb.specs.Queued.{Closed}
use Rattle.rule.specs.declared.Asking.{Asking}
use Rattle.lowest.specs.Named.{LowestOfFirst}

-- the associations "strictly rise", as a sound policy's do
unfoldable pub associations_rise : (mem : List ℕ) → Bool
associations_rise mem = rising association_fields (policy_of mem).associations

-- what is named, association i where none is
unfoldable pub first_name : (name i : ℕ) → ℕ
first_name zero i = suc i
first_name (suc j) i = suc j

-- the first n of the queue are classes
pub record ClassesQueued (queue : List ℕ) (n : ℕ) : Type 0 where
  pub room : length queue ≡ 512
  pub short : n ≤ 512
  pub small : (k : ℕ) → k < n → get_or queue k 0 < 512

-- class c stands in the queue at a place from `tail` on, below n
pub record Behind (queue : List ℕ) (tail n c : ℕ) : Type 0 where
  pub at : ℕ
  pub late : tail ≤ at
  pub early : at < n
  pub is : get_or queue at 0 ≡ c

-- each class there that names none names association i, every other class what it named
pub record FirstQueued (queue : List ℕ) (tail n i : ℕ) (names names' : List ℕ) : Type 0 where
  pub size : length names' ≡ 512
  pub first : (c : ℕ) → Behind queue tail n c → get_or names' c 0 ≡ first_name (get_or names c 0) i
  pub only : (c : ℕ) → (get_or names' c 0 ≡ get_or names c 0) ⊎ Behind queue tail n c

-- what each class names is the lowest of the first i associations that authorize the right in it, and the marks are those of the classes that name
-- one: each container of a marked element is marked
pub record LowestMarked (mem : List ℕ) (q : Asking) (i : ℕ) (names seen queue : List ℕ) (tail : ℕ) : Type 0 where
  pub lowest : LowestOfFirst mem q i names
  pub closed : Closed mem seen queue tail
  pub some : (c : ℕ) → c < 512 → 0 < get_or seen c 0 → 0 < get_or names c 0
  pub none : (c : ℕ) → c < 512 → get_or seen c 0 ≡ 0 → get_or names c 0 ≡ 0
