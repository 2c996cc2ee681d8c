use Rattle.lowest.proofs.Rising.{queued_classes, first_none, first_kept, first_taken}
use Rattle.lowest.proofs.name_first.Goals as goal

pub returns-then-not-is_offered : goal.returns-then-not-is_offered
returns-then-not-is_offered c = search first_none

pub returns-then-seen-target-gt0 : goal.returns-then-seen-target-gt0
returns-then-seen-target-gt0 c = search first_kept

pub name_queued-requires-clause-classes_queued : goal.name_queued-requires-clause-classes_queued
name_queued-requires-clause-classes_queued c = search queued_classes

pub returns : goal.returns
returns c = search first_taken
