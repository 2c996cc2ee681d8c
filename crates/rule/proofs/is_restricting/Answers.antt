use Rattle.std.proofs.Common.{◌∙◌}
use Rattle.rule.proofs.Parts.{then_is, else_is}
use Rattle.rule.proofs.Restrictions.{restricts_not, restricts_range}
use Rattle.rule.proofs.is_restricting.Goals as goal
use Rattle.rule.proofs.is_restricting.Goals.{then-has_right, else-has_right}

pub returns-then-is_subject : goal.returns-then-is_subject
returns-then-is_subject g c =
    restricts_range _ _ _ _ _ _ _ _ c.prohibition_rights_at.ensures c.has_right.ensures
    (elim c.if-has_right.branch [
      | then-has_right w ↦ then_is w.if-has_right.true (w.value-is ∙ w.is_subject.ensures)
      | else-has_right w ↦ else_is _ w.if-has_right.false w.value-is
    ])
    c.if-is_subject.true c.is_in_range.ensures

pub returns-else-is_subject : goal.returns-else-is_subject
returns-else-is_subject g c =
    restricts_not _ _ _ _ _ _ _ _ c.prohibition_rights_at.ensures c.has_right.ensures
    (elim c.if-has_right.branch [
      | then-has_right w ↦ then_is w.if-has_right.true (w.value-is ∙ w.is_subject.ensures)
      | else-has_right w ↦ else_is _ w.if-has_right.false w.value-is
    ])
    c.if-is_subject.false
