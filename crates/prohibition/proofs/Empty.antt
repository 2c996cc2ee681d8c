-- Whether two lists have an id.
-- Assumes nothing.
use mathlib.Core.Path.{◌≡◌, refl}
use mathlib.Core.Bool.{not}
use mathlib.Core.List.{List, [], ◌∷◌, ◌++◌}
use Prim.Native.Nat.{ℕ, ◌+◌}
use native.Mathlib.Omega.{arith}
use borrow.Author.Tests.{lt-ltb}
use lib.Dec.{ltb}
use lib.ListN.{length}
use Rattle.model.specs.Lists.{empty}

-- the lists are empty where no id is in them
pub some_listed : (x y : List ℕ) → ltb 0 (length x + length y) ≡ not (empty (x ++ y))
unfolding empty
some_listed [] [] = refl
some_listed [] (a ∷ y) = lt-ltb 0 (length {A = ℕ} [] + length (a ∷ y)) (omega arith)
some_listed (a ∷ x) y = lt-ltb 0 (length (a ∷ x) + length y) (omega arith)
