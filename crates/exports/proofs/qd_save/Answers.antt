use Rattle.exports.proofs.Carried.{bytes_code, bytes_left}
use Rattle.exports.proofs.qd_save.Goals as goal

pub returns : goal.returns
returns c = (search bytes_code, search bytes_left)
