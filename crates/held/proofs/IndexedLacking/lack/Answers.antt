use Rattle.std.proofs.Common.{refl}
use Rattle.held.proofs.Sighted.{rows_whole, lack_indexed}
use Rattle.held.proofs.IndexedLacking.lack.Goals as goal

pub lack_by_index-requires-clause-idx_len : goal.lack_by_index-requires-clause-idx_len
lack_by_index-requires-clause-idx_len c = rows_whole c.requires.rows refl

pub returns : goal.returns
returns c = lack_indexed _ _ _ _ c.requires.rows refl c.lack_by_index.ensures
