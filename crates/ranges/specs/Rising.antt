-- Records of words in their order.
-- Assumes nothing.
use Rattle.std.specs.Prelude.{Bool, List, ℕ, ◌+◌, take, drop}
use Rattle.model.specs.Lists.{before, rising}
use Rattle.group.specs.Group.{records}

-- the record at a place is before the one `stride` words behind it, by the first `key` words of each
unfoldable pub before_next : (mem : List ℕ) (at stride key : ℕ) → Bool
before_next mem at stride key = before (take key (drop at mem)) (take key (drop (at + stride) mem))

-- the n records of `stride` words each from `base` on strictly rise
unfoldable pub records_rise : (mem : List ℕ) (base stride n : ℕ) → Bool
records_rise mem base stride n = rising (take stride) (records stride n (drop base mem))
