use Rattle.grants.proofs.Written.{grant_all}
use Rattle.grants.proofs.put_rows.Goals as goal

pub returns : goal.returns
returns c = search grant_all
