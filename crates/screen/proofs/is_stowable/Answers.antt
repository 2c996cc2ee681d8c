-- `screen::is_stowable` meets its contract.
-- Assumes nothing.
use Rattle.screen.proofs.Answers.{elements_reached, wrong_element, long_list, by_processes}
use Rattle.screen.proofs.is_stowable.Goals as goal

pub are_elements_right-requires-clause-reaches : goal.are_elements_right-requires-clause-reaches
are_elements_right-requires-clause-reaches c = search elements_reached

pub returns-then-not-are_elements_right : goal.returns-then-not-are_elements_right
returns-then-not-are_elements_right c = search wrong_element

pub returns-then-not-are_lists_short : goal.returns-then-not-are_lists_short
returns-then-not-are_lists_short c = search long_list

pub returns : goal.returns
returns c = search by_processes
