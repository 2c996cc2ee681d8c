use Rattle.pack.proofs.Fillings.{none_left, left_zero}
use native.Mathlib.Omega.{arith}
use Rattle.pack.proofs.write_filling.Goals as goal

pub returns-then-left-eq0 : goal.returns-then-left-eq0
returns-then-left-eq0 c = none_left _ _ (λ i. (c.type_inv.out i).fits) (omega arith)

pub returns : goal.returns
returns c = search left_zero
