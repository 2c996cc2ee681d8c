-- What is asked of one process, of elements in a row, and of the assignments by the bits of an index.
-- Assumes nothing.
use Rattle.std.specs.Prelude.{Bool, not, ◌||◌, List, ℕ, ◌+◌, ◌-◌, eqb}
use Rattle.model.specs.Lists.{any_of}
use Rattle.model.specs.Policy.{Assignment, Policy, user, class, kind_of, is_there, user_of, is_process}
use Rattle.model.specs.Index.{bit_at}
use Rattle.table.specs.View.{each_below}

-- the process is not there, or its user is a user
unfoldable pub owner_fits : Policy → (i : ℕ) → Bool
owner_fits p i = not (is_process p i) || eqb (kind_of p (user_of p i)) user

-- the element is not there or is a class
unfoldable pub is_free : Policy → (x : ℕ) → Bool
is_free p x = not (is_there p x) || eqb (kind_of p x) class

-- so is each from one on and below another
unfoldable pub are_free : Policy → (from to : ℕ) → Bool
are_free p from to = each_below (to - from) (λ k. is_free p (from + k))

-- by an index's bits, some assignment's container is within its child
unfoldable pub returns_by : (index : List ℕ) → List Assignment → Bool
returns_by index l = any_of (λ a. bit_at index a.container a.child) l
