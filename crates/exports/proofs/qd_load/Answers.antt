use Rattle.exports.proofs.Carried.{words_code, words_left}
use Rattle.exports.proofs.qd_load.Goals as goal

pub returns : goal.returns
returns c = (search words_code, search words_left)
