-- What the marks of a climb say: one mark for each of 0 to 511, 1 for what the element is within, 0 for the rest.
-- Assumes nothing.
use Rattle.std.specs.Prelude.{◌||◌, List, ℕ, eqb, get_or}
use Rattle.model.specs.Lists.{tabulate}
use Rattle.model.specs.Contain.{contained}
use Rattle.model.specs.Bits.{digit}
use Rattle.table.specs.View.{policy_of}

-- the marks of all that x is within, in the policy that the words are
unfoldable pub marks_of : List ℕ → (x : ℕ) → List ℕ
marks_of mem x = tabulate 512 (λ y. digit (contained (policy_of mem) x y))

-- the marks with those of all that x is within
unfoldable pub also_marks : List ℕ → (seen : List ℕ) → (x : ℕ) → List ℕ
also_marks mem seen x = tabulate 512 (λ y. digit (eqb (get_or seen y 0) 1 || contained (policy_of mem) x y))
