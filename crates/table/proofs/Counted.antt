-- How many assignments, associations and prohibitions the policy of a table has.
-- Assumes nothing.
use mathlib.Core.Path.{◌≡◌}
use mathlib.Core.List.{List}
use Prim.Native.Nat.{ℕ}
use lib.ListN.{length}
use Rattle.model.proofs.Indexed.{length_tabulate}
use Rattle.table.specs.Layout.{assignment_count, association_count, prohibition_count}
use Rattle.table.specs.View.{assignment_at, association_at, prohibition_at, assignments_of, associations_of, prohibitions_of, policy_of}

-- A group has as many records as its counter says.
module _ (mem : List ℕ) where
  pub assignments_long : length (policy_of mem).assignments ≡ assignment_count mem
  unfolding policy_of assignments_of
  assignments_long = length_tabulate (assignment_count mem) (assignment_at mem)

  pub associations_long : length (policy_of mem).associations ≡ association_count mem
  unfolding policy_of associations_of
  associations_long = length_tabulate (association_count mem) (association_at mem)

  pub prohibitions_long : length (policy_of mem).prohibitions ≡ prohibition_count mem
  unfolding policy_of prohibitions_of
  prohibitions_long = length_tabulate (prohibition_count mem) (prohibition_at mem)
