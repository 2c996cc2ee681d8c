use Rattle.denials.proofs.Reasons.{cause_user, cause_process, cause_attribute}
use Rattle.denials.proofs.restriction.Goals as goal

pub returns-in-Some : goal.returns-in-Some
returns-in-Some c = cause_user _ _ c.requires.element_value c.in-Some.ensures

pub returns-in-Some-lowest_subject : goal.returns-in-Some-lowest_subject
returns-in-Some-lowest_subject c = cause_process _ _ c.requires.element_value c.in_default.ensures c.in-Some-lowest_subject.ensures

pub returns : goal.returns
returns c = rw c.unwrap_or.ensures (cause_attribute _ _ c.requires.element_value c.in_default.ensures c.in_default-lowest_subject.ensures c.lowest_subject-3.ensures)
