use mathlib.Core.Path.{refl}
use Rattle.std.proofs.Common.{rules, tests, ltb, ◌*◌}
use Rattle.std.proofs.lemmas.List.Sorted.{IsPartitionPoint-from_clause}
use Rattle.table.proofs.Assignments.{parted, first_found}
use Rattle.table.proofs.first_of.Goals as goal

pub returns : goal.returns
returns c = first_found c.requires.table (c.args.x * 512) c.args.x refl c.partition_point.ensures.bound
    (IsPartitionPoint-from_clause (λ w. ltb w (c.args.x * 512)) _ _ c.partition_point.ensures.partitioned (parted c.requires.table (c.args.x * 512)) (λ a r f k. search (rules, tests)))
