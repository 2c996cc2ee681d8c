-- What the library's methods answer of a lent list: whether each id passes a test, and whether the ids strictly rise.
-- Assumes nothing.
use mathlib.Core.Path.{◌≡◌, refl, sym, ap, ◌∙◌}
use mathlib.Core.Bool.{Bool, true, false, ◌&&◌}
use mathlib.Core.List.{List, [], ◌∷◌}
use Prim.Native.Nat.{ℕ, suc, ◌+◌}
use native.Mathlib.Omega.{arith}
use lib.Dec.{ltb}
use lib.ListN.{get_or}
use Rattle.std.specs.List.{list_all, IsAllAdjacentAnswer}
use Rattle.model.specs.Lists.{one, all_of, rising_ids}
use Rattle.model.proofs.Truth.{fails_when, clash}
use Rattle.model.proofs.Order.{before_one}
use Rattle.store.proofs.Regroups.{rising_before, rising_get_d}

-- the library's word for "each passes the test" is the model's
pub all_listed : {A : Type 0} (f : A → Bool) (l : List A) → list_all f l ≡ all_of f l
unfolding all_of
all_listed f [] = refl
all_listed f (a ∷ l) = ap (λ (b : Bool). f a && b) (all_listed f l)

-- each id is below the next exactly if the list strictly rises
pub rising_ids_lem : (l : List ℕ) (r : Bool) → IsAllAdjacentAnswer (λ x y b. b ≡ ltb x y) l r → r ≡ rising_ids l
unfolding rising_ids
rising_ids_lem l true each =
    sym (rising_get_d (λ x. one x) l 0 (λ k h. let e : suc k ≡ k + 1 = omega arith in before_one (get_or l k 0) (get_or l (suc k) 0) ∙ rw e (sym (each k 0 (omega arith)))))
rising_ids_lem l false (k, inside, not_below) =
    sym (fails_when (rising_ids l) (λ e.
    clash (sym (before_one (get_or l k 0) (get_or l (k + 1) 0)) ∙ rising_before (λ x. one x) l 0 k (k + 1) e (omega arith) inside) (sym (not_below 0))))
