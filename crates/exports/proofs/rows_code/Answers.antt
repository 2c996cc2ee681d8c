use Rattle.exports.proofs.Cases.{grant_rows_code, deny_rows_code}
use Rattle.exports.proofs.rows_code.Goals as goal

pub returns-in-Grant : goal.returns-in-Grant
returns-in-Grant c = search grant_rows_code

pub returns-in-Deny : goal.returns-in-Deny
returns-in-Deny c = search deny_rows_code
