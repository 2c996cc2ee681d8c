-- `put::numbers` meets its contract: before each turn the first i words were put.
-- Assumes nothing.
use Prim.Native.Nat.{◌+◌}
use Rattle.put.proofs.Runs.{word_bits}
use Rattle.put.proofs.Filling.{Filling}
use Rattle.put.proofs.numbers.Given as goal

abbrev pub invariant-loop-word : goal.invariant-loop-word
invariant-loop-word l = Filling l.initial.out l.out l.at (word_bits l.mem l.width) l.from (l.from + l.n) (l.from + l.word-index) l.c.at
