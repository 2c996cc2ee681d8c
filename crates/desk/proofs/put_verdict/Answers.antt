use Rattle.desk.proofs.Answering.{grant_put, deny_put, denied_accepted}
use Rattle.desk.proofs.put_verdict.Goals as goal

pub put_denial-requires-clause-accepted : goal.put_denial-requires-clause-accepted
put_denial-requires-clause-accepted c = search denied_accepted

pub returns-in-Grant : goal.returns-in-Grant
returns-in-Grant c = search grant_put

pub returns-in-Deny : goal.returns-in-Deny
returns-in-Deny c = search deny_put
