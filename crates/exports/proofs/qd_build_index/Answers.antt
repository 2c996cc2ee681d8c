use Rattle.exports.proofs.Carried.{index_code, index_left}
use Rattle.exports.proofs.qd_build_index.Goals as goal

pub returns : goal.returns
returns c = (search index_code, search index_left)
