-- The operation table in numbers: kinds and rights as sets, three arguments always, two alternatives always. What an operation does not use is 0.
-- Assumes nothing.
use Rattle.std.specs.Prelude.{Bool, not, cond, ◌&&◌, List, [], ◌∷◌, ℕ, ◌+◌, ◌^◌, eqb, get_or}
use Rattle.model.specs.Lists.{those, tabulate, two, three}
use Rattle.model.specs.Policy.{Policy, is_element_id, is_there, kind_of, has_right}
use Rattle.model.specs.Request.{Rights, Alternative, operation_of}

-- a set of kinds, or of rights, as a number: bit k is set for k
unfoldable pub set_of : List ℕ → ℕ
set_of [] = 0
set_of (k ∷ l) = 2 ^ k + set_of l

-- for each of three arguments the kinds that it may be of
unfoldable pub kind_sets : (operation : ℕ) → List ℕ
kind_sets n =
    let ks = (operation_of n).arguments in
    three (set_of (get_or ks 0 [])) (set_of (get_or ks 1 [])) (set_of (get_or ks 2 []))

-- for each of three arguments the rights that an alternative asks
unfoldable pub right_sets : Alternative → List ℕ
right_sets alternative = three (set_of (get_or alternative 0 [])) (set_of (get_or alternative 1 [])) (set_of (get_or alternative 2 []))

-- "alternatives, a right set per argument": an operation with one alternative has a second one that asks nothing
unfoldable pub capabilities : (operation : ℕ) → List (List ℕ)
capabilities n =
    let alternatives = (operation_of n).alternatives in
    two (right_sets (get_or alternatives 0 [])) (right_sets (get_or alternatives 1 []))

-- the rights of a set, rising
unfoldable pub rights_in : (rights : ℕ) → Rights
rights_in rights = those (has_right rights) (tabulate 32 (λ r. r))

-- an argument of a request, by the kinds that it may be of: 0 where the operation does not use it
unfoldable pub is_bad : (kinds e : ℕ) → Bool
is_bad kinds e = cond (eqb kinds 0) (not (eqb e 0)) (not (is_element_id e))

-- a used argument is absent
unfoldable pub is_absent : Policy → (kinds e : ℕ) → Bool
is_absent p kinds e = not (eqb kinds 0) && not (is_there p e)

-- a used argument is of another kind
unfoldable pub is_wrong : Policy → (kinds e : ℕ) → Bool
is_wrong p kinds e = not (eqb kinds 0) && not (has_right kinds (kind_of p e))
