use Rattle.denials.proofs.Reasons.{why_no_class, why_lacked, lacks_nothing, why_free, why_restricted}
use Rattle.denials.proofs.why.Goals as goal

pub returns-in-NoClass : goal.returns-in-NoClass
returns-in-NoClass c = why_no_class _ _ _ c.in-NoClass.ensures

pub returns-in-LackedIn : goal.returns-in-LackedIn
returns-in-LackedIn c = why_lacked _ _ _ c.in-LackedIn.ensures

pub restriction-requires-clause-element_value : goal.restriction-requires-clause-element_value
restriction-requires-clause-element_value c = lacks_nothing _ _ c.args.q c.in-Held.ensures

pub returns-then-is_restricted : goal.returns-then-is_restricted
returns-then-is_restricted c = why_restricted _ _ _ c.in-Held.ensures c.requires.rows c.is_restricted.ensures c.if-is_restricted.true c.restriction.ensures

pub returns-else-is_restricted : goal.returns-else-is_restricted
returns-else-is_restricted c = why_free _ _ _ c.in-Held.ensures c.requires.rows c.is_restricted.ensures c.if-is_restricted.false
