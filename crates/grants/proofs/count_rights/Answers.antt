use Rattle.grants.proofs.Counted.{rights_counted}
use Rattle.grants.proofs.count_rights.Goals as goal

pub returns : goal.returns
returns c = search (rights_counted, c.ranges.rights.fits)
