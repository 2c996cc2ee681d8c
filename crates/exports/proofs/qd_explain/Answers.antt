use Rattle.exports.proofs.Carried.{rows_code, rows_left}
use Rattle.exports.proofs.qd_explain.Goals as goal

pub returns : goal.returns
returns c = (search rows_code, search rows_left)
