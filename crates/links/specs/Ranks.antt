-- Ranks of elements: a number for each of 0 to 511. Where each assignment's child has a higher rank than its container, no chain of assignments
-- returns to its start.
-- Assumes nothing.
use Rattle.std.specs.Prelude.{Bool, cond, ◌||◌, List, ℕ, zero, suc, ltb, get_or, set, replicate}
use Rattle.model.specs.Policy.{Assignment}
use Rattle.table.specs.Layout.{assignment_count}
use Rattle.table.specs.View.{assignment_at}

-- the child's rank is higher than the container's
unfoldable pub is_above : (ranks : List ℕ) → Assignment → Bool
is_above ranks a = ltb (get_or ranks a.container 0) (get_or ranks a.child 0)

-- the rank of the child above that of the container: the next one, unless the child's is higher already; no rank is above 512
unfoldable pub above : (container child : ℕ) → ℕ
above container child = cond (ltb container child || ltb 511 container) child (suc container)

-- the ranks with the child of assignment i above its container
unfoldable pub lifted : (mem : List ℕ) (i : ℕ) (ranks : List ℕ) → List ℕ
lifted mem i ranks =
    let a = assignment_at mem i in
    set ranks a.child (above (get_or ranks a.container 0) (get_or ranks a.child 0))

-- with those of the first n assignments, in their order
unfoldable pub lifted_up : (mem : List ℕ) (n : ℕ) (ranks : List ℕ) → List ℕ
lifted_up mem zero ranks = ranks
lifted_up mem (suc n) ranks = lifted mem n (lifted_up mem n ranks)

-- the same against their order
unfoldable pub lifted_down : (mem : List ℕ) (n : ℕ) (ranks : List ℕ) → List ℕ
lifted_down mem zero ranks = ranks
lifted_down mem (suc n) ranks = lifted_down mem n (lifted mem n ranks)

-- from ranks that are all 0, every child lifted in the assignments' order and then against it
unfoldable pub ranks_of : (mem : List ℕ) → List ℕ
ranks_of mem = lifted_down mem (assignment_count mem) (lifted_up mem (assignment_count mem) (replicate 512 0))
