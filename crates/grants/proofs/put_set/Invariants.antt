use Rattle.decide.proofs.Left.{Left}
use Rattle.table.specs.View.{policy_of}
use Rattle.grants.specs.Numbers.{if_rows}
use Rattle.grants.specs.Put.{Put}
use Rattle.grants.proofs.Below.{below}
use Rattle.grants.proofs.put_set.Given as goal

abbrev pub invariant-loop-left : goal.invariant-loop-left
invariant-loop-left l = Left l.rights l.r l.left × Put l.initial.out l.at (below (if_rows (policy_of l.mem) l.q l.rights l.alternative l.k) l.r) l.out l.t

abbrev pub decreases-loop-left : goal.decreases-loop-left
decreases-loop-left l = l.left
