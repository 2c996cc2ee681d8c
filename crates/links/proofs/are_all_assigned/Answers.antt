use Rattle.links.proofs.Placing.{child_most, next_fits, placed_none, placed_fails, placed_same, placed_more, placed_all}
use Rattle.links.proofs.are_all_assigned.Goals as goal
use Rattle.links.proofs.are_all_assigned.Goals.{else-x-c-via-then-x-c+else-not-are_free, else-x-c-via-else-x-c}

pub loop-i-init : goal.loop-i-init
loop-i-init c = search placed_none

pub are_free-requires-clause-to_bound : goal.are_free-requires-clause-to_bound
are_free-requires-clause-to_bound c = search child_most

pub returns-then-not-are_free : goal.returns-then-not-are_free
returns-then-not-are_free c = search placed_fails

pub overflow_add-x : goal.overflow_add-x
overflow_add-x c = record { fits = search next_fits }

pub loop-i-preserved : goal.loop-i-preserved
loop-i-preserved c =
    elim c.else-x-c.branch [ else-x-c-via-then-x-c+else-not-are_free w ↦ search placed_more | else-x-c-via-else-x-c w ↦ search placed_same ]

pub returns : goal.returns
returns c = search placed_all
