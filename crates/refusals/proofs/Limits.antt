-- The limits: the counters of a table against the most that there can be.
-- Assumes nothing.
use mathlib.Core.Path.{◌≡◌, sym, ap}
use mathlib.Core.List.{List}
use Prim.Native.Nat.{ℕ}
use lib.Dec.{leb}
use Rattle.model.specs.Command.{full_of_assignments, full_of_associations, full_of_prohibitions}
use Rattle.table.specs.Layout.{assignment_count, association_count, prohibition_count}
use Rattle.table.specs.View.{policy_of}
use Rattle.table.proofs.Counted.{assignments_long, associations_long, prohibitions_long}

-- The counter of a group tells whether there is room.
module _ (mem : List ℕ) where
  pub assignments_full : leb 2000 (assignment_count mem) ≡ full_of_assignments (policy_of mem)
  assignments_full = ap (leb 2000) (sym (assignments_long mem))

  pub associations_full : leb 1000 (association_count mem) ≡ full_of_associations (policy_of mem)
  associations_full = ap (leb 1000) (sym (associations_long mem))

  pub prohibitions_full : leb 200 (prohibition_count mem) ≡ full_of_prohibitions (policy_of mem)
  prohibitions_full = ap (leb 200) (sym (prohibitions_long mem))
