use Rattle.decide.proofs.Sights.{climbed_rows}
use Rattle.explain.proofs.Answered.{decided_second}
use Rattle.explain.proofs.explain_accepted.Goals as goal

pub choose-decision-requires-clause-all_rows : goal.choose-decision-requires-clause-all_rows
choose-decision-requires-clause-all_rows c = search climbed_rows

pub explain_grant-requires-clause-all_rows : goal.explain_grant-requires-clause-all_rows
explain_grant-requires-clause-all_rows c = search climbed_rows

pub explain_grant-requires-in-Grant-clause-all_rows : goal.explain_grant-requires-in-Grant-clause-all_rows
explain_grant-requires-in-Grant-clause-all_rows c = search climbed_rows

pub explain_grant-requires-in-Grant-clause-q_value : goal.explain_grant-requires-in-Grant-clause-q_value
explain_grant-requires-in-Grant-clause-q_value c = search decided_second

pub explain_deny-requires-clause-all_rows : goal.explain_deny-requires-clause-all_rows
explain_deny-requires-clause-all_rows c = search climbed_rows
