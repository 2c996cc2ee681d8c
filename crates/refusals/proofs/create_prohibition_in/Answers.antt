use Rattle.model.specs.Command.{command_lines}
use Rattle.refusals.specs.Numbers.{later_refusal}
use Rattle.refusals.proofs.Lines.{lines}
use Rattle.refusals.proofs.Prohibitions.{prohibitions}
use Rattle.refusals.proofs.create_prohibition_in.Goals as goal

pub returns-then-is_there : goal.returns-then-is_there
unfolding later_refusal command_lines
returns-then-is_there c = search (lines, prohibitions) depth 8

pub returns-then-names_absent : goal.returns-then-names_absent
unfolding later_refusal command_lines
returns-then-names_absent c = search (lines, prohibitions) depth 8

pub returns-then-names_other_kind : goal.returns-then-names_other_kind
unfolding later_refusal command_lines
returns-then-names_other_kind c = search (lines, prohibitions) depth 8

pub returns-then-is_ill_formed : goal.returns-then-is_ill_formed
unfolding later_refusal command_lines
returns-then-is_ill_formed c = search (lines, prohibitions) depth 8

pub returns-then-is_full_of_prohibitions : goal.returns-then-is_full_of_prohibitions
unfolding later_refusal command_lines
returns-then-is_full_of_prohibitions c = search (lines, prohibitions) depth 8

pub returns : goal.returns
unfolding later_refusal command_lines
returns c = search (lines, prohibitions) depth 8
