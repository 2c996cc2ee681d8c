use mathlib.Core.Path.{◌≡◌, ap, ◌∙◌}
use native.Mathlib.Omega.{arith}
use Rattle.std.proofs.Common.{ℕ, ◌+◌, ◌-◌, replicate}
use Rattle.group.specs.Group.{laid}
use Rattle.group.proofs.Moves.{filled_laid}
use Rattle.group.proofs.clear.Goals as goal

pub returns : goal.returns
returns c = let n : c.args.at + c.args.n - c.args.at ≡ c.args.n = omega arith in
    filled_laid c.args.at (c.args.at + c.args.n) c.fill.new.self c.args.mem.now (omega arith) c.requires c.fill.ensures.after ∙ ap (λ (i : ℕ). laid c.args.at (replicate i 0) c.args.mem.now) n
