-- `put::numbers` meets its contract: before each turn the first words were put.
-- Assumes nothing.
use native.Mathlib.Omega.{arith}
use borrow.Author.Rules.{rules}
use Prim.Native.Nat.{◌+◌, ◌≤◌, ◌<◌}
use Rattle.std.proofs.lemmas.List.Edits.{length-between, get_or-between}
use Rattle.put.proofs.Turns.{number_start, number_turn, number_end}
use Rattle.put.proofs.numbers.Goals as goal

pub loop-word-init : goal.loop-word-init
loop-word-init c = number_start _ _ _ _ (λ i. (c.type_inv.out i).fits) (search rules)

pub loop-word-preserved : goal.loop-word-preserved
loop-word-preserved c = let h : c.loop-word.word-index < c.args.n = omega (arith, length-between c.args.mem.now c.args.from (c.args.from + c.args.n) c.requires.n_in_bounds) in
    let w = get_or-between c.args.mem.now c.args.from (c.args.from + c.args.n) c.loop-word.word-index 0 (omega arith) in
    number_turn c.args.mem.now c.args.from c.args.n c.args.width c.loop-word.invariant h (rw w at c.write-c.ensures)

pub returns : goal.returns
returns c = let h : c.args.n ≤ c.loop-word.word-index = omega (arith, length-between c.args.mem.now c.args.from (c.args.from + c.args.n) c.requires.n_in_bounds) in search number_end
