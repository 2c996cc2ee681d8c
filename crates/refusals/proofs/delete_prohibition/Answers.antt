use Rattle.model.specs.Command.{command_lines}
use Rattle.table.proofs.Asked.{tested}
use Rattle.refusals.specs.Numbers.{refusal_of}
use Rattle.refusals.proofs.Lines.{lines}
use Rattle.refusals.proofs.Prohibitions.{prohibitions, sort_small, subject_small, form_small}
use Rattle.refusals.proofs.delete_prohibition.Goals as goal

pub returns-then-not-holds : goal.returns-then-not-holds
unfolding refusal_of command_lines
returns-then-not-holds c = search lines

pub returns-then-is_out_of_range : goal.returns-then-is_out_of_range
unfolding refusal_of command_lines
returns-then-is_out_of_range c = search (lines, prohibitions) depth 8

pub lacks_prohibition-requires-clause-table : goal.lacks_prohibition-requires-clause-table
lacks_prohibition-requires-clause-table c = search tested

pub lacks_prohibition-requires-clause-sort_bound : goal.lacks_prohibition-requires-clause-sort_bound
lacks_prohibition-requires-clause-sort_bound c = search sort_small

pub lacks_prohibition-requires-clause-subject_bound : goal.lacks_prohibition-requires-clause-subject_bound
lacks_prohibition-requires-clause-subject_bound c = search subject_small

pub lacks_prohibition-requires-clause-form_bound : goal.lacks_prohibition-requires-clause-form_bound
lacks_prohibition-requires-clause-form_bound c = search form_small

pub returns-then-lacks_prohibition : goal.returns-then-lacks_prohibition
unfolding refusal_of command_lines
returns-then-lacks_prohibition c = search (lines, prohibitions) depth 8

pub names_other_kind-requires : goal.names_other_kind-requires
names_other_kind-requires c = search tested

pub returns-then-names_other_kind : goal.returns-then-names_other_kind
unfolding refusal_of command_lines
returns-then-names_other_kind c = search (lines, prohibitions) depth 8

pub returns-then-is_ill_formed : goal.returns-then-is_ill_formed
unfolding refusal_of command_lines
returns-then-is_ill_formed c = search (lines, prohibitions) depth 8

pub returns : goal.returns
unfolding refusal_of command_lines
returns c = search (lines, prohibitions) depth 8
