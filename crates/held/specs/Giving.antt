-- What is gathered while the associations are gone through: the classes in which one of those seen so far gives the right.
-- Assumes nothing.
use Rattle.std.specs.Prelude.{◌≡◌, Bool, true, false, List, ℕ, ◌<◌, length, get_or}
use Rattle.model.specs.Lists.{any_of, tabulate}
use Rattle.model.specs.Bits.{digit}
use Rattle.model.specs.Contain.{contained}
use Rattle.model.specs.Rule.{gives}
use Rattle.model.specs.Index.{bit_at}
use Rattle.table.specs.View.{policy_of, association_at}
use Rattle.climb.specs.Queued.{Closed}
use Rattle.rule.specs.Sight.{seen}
use Rattle.rule.specs.declared.Asking.{Asking}

-- one of the first i associations gives the right in c
unfoldable pub given_by_first : (U E : ℕ → Bool) (T : ℕ → ℕ → Bool) (mem : List ℕ) (r i c : ℕ) → Bool
given_by_first U E T mem r i c = any_of (gives U E T r c) (tabulate i (association_at mem))

-- the marks are those of where one of the first i associations gives the right, by climbing
pub record GivenMarks (mem rows : List ℕ) (q : Asking) (i : ℕ) (given queue : List ℕ) (tail : ℕ) : Type 0 where
  pub closed : Closed mem given queue tail
  pub is : (c : ℕ) → c < 512
      → get_or given c 0 ≡ digit (given_by_first (seen rows false q.by) (seen rows false q.over) (contained (policy_of mem)) mem q.right i c)

-- the bits are those of where one of the first i associations gives the right, by the bits of an index
pub record GivenBits (mem idx : List ℕ) (q : Asking) (i : ℕ) (given : List ℕ) : Type 0 where
  pub size : length given ≡ 64
  pub is : (c : ℕ) → c < 512 → bit_at given 0 c ≡ given_by_first (seen idx true q.by) (seen idx true q.over) (bit_at idx) mem q.right i c
