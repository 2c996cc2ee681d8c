-- The rows of a grant as numbers are those of 01's explanation.
-- Assumes nothing.
use mathlib.Core.Path.{◌≡◌, refl, sym, ap, ap₂, ◌∙◌}
use mathlib.Core.Bool.{false}
use mathlib.Core.List.{List, [], ◌∷◌, ◌++◌, map, append-nil}
use Prim.Native.Nat.{ℕ, ◌<◌}
use native.Mathlib.Omega.{arith}
use lib.ListN.{get_or}
use Rattle.model.specs.Lists.{three}
use Rattle.model.specs.Policy.{Policy, user_of}
use Rattle.model.specs.Contain.{contained}
use Rattle.model.specs.Rule.{classes_of}
use Rattle.model.specs.Request.{Rights, Alternative, operation_of, Asked, asked}
use Rattle.model.specs.Explain.{Row, joined, authorizing, grant_row, grant_rows}
use Rattle.table.specs.View.{policy_of}
use Rattle.request.specs.Sets.{right_sets, rights_in}
use Rattle.request.specs.Asks.{request_of}
use Rattle.request.specs.declared.Request.{Request}
use Rattle.request.proofs.Operations.{rights_back}
use Rattle.request.proofs.Alternatives.{set_at, asked_at}
use Rattle.decide.specs.Asks.{asking_of, with_right}
use Rattle.grants.specs.Numbers.{lowest_in, class_numbers, right_numbers, set_numbers, grant_numbers}
use Rattle.grants.proofs.Below.{map-append, joined_append}

-- the eight numbers of a row
abbrev numbers_of : Row → List ℕ
numbers_of r =
    r.alternative ∷ r.argument ∷ r.right ∷ r.cause ∷ r.number ∷ r.attribute ∷ r.target ∷ r.rights ∷ []

-- of no argument nothing is asked
asked_none : (i : ℕ) (alternative : Alternative) → asked i alternative [] ≡ []
unfolding asked
asked_none i [] = refl
asked_none i (rs ∷ more) = refl

-- what an alternative asks, argument by argument
asked_lists : (alternative : Alternative) (a b c : ℕ) → asked 1 alternative (three a b c)
    ≡ map (asked_at 1 a) (get_or alternative 0 []) ++ (map (asked_at 2 b) (get_or alternative 1 []) ++ map (asked_at 3 c) (get_or alternative 2 []))
unfolding asked
asked_lists [] a b c = refl
asked_lists (x ∷ []) a b c = refl
asked_lists (x ∷ y ∷ []) a b c = refl
asked_lists (x ∷ y ∷ z ∷ more) a b c =
    ap (λ (l : List Asked). map (asked_at 1 a) x ++ (map (asked_at 2 b) y ++ l)) (ap (λ (l : List Asked). map (asked_at 3 c) z ++ l) (asked_none 4 more) ∙ append-nil (map (asked_at 3 c) z))

module _ (p : Policy) (q : Request) (k : ℕ) where
  -- the rows of one right asked of one argument
  abbrev rows_of : Asked → List Row
  rows_of a = map (grant_row (contained p) p (request_of q) k a) (classes_of (contained p a.element) p)

  -- as numbers
  right_numbers_lem : {user : ℕ} → user ≡ user_of p q.process → (i e r : ℕ) (cs : List ℕ)
      → map (class_numbers p (with_right (asking_of q user false e i 0) r) k i) cs ≡ map numbers_of (map (grant_row (contained p) p (request_of q) k (asked_at i e r)) cs)
  unfolding class_numbers lowest_in grant_row authorizing
  right_numbers_lem u i e r [] = refl
  right_numbers_lem u i e r (c ∷ cs) = ap₂ ◌∷◌ (rw u) (right_numbers_lem u i e r cs)

  -- the rows of the rights asked of one argument
  rights_numbers : {user : ℕ} → user ≡ user_of p q.process → (i e : ℕ) (rs : Rights)
      → joined (λ r. right_numbers p (with_right (asking_of q user false e i 0) r) k i) rs ≡ map numbers_of (joined rows_of (map (asked_at i e) rs))
  unfolding joined right_numbers
  rights_numbers u i e [] = refl
  rights_numbers u i e (r ∷ rs) =
      ap₂ ◌++◌ (right_numbers_lem u i e r (classes_of (contained p e) p)) (rights_numbers u i e rs)
      ∙ sym (map-append numbers_of (rows_of (asked_at i e r)) (joined rows_of (map (asked_at i e) rs)))

  -- of a set whose rights they are
  set_numbers_lem : {user : ℕ} → user ≡ user_of p q.process → (i e rights : ℕ) {rs : Rights} → rights_in rights ≡ rs
      → set_numbers p (asking_of q user false e i 0) rights k i ≡ map numbers_of (joined rows_of (map (asked_at i e) rs))
  unfolding set_numbers
  set_numbers_lem u i e rights {rs} h = rw h (rights_numbers u i e rs)

-- the rights of each argument's set, in an alternative of the operation table
set_back : (n j k : ℕ) → k < 3 → rights_in (get_or (right_sets (get_or (operation_of n).alternatives j [])) k 0) ≡ get_or (get_or (operation_of n).alternatives j []) k []
set_back n j k h = ap rights_in (set_at (get_or (operation_of n).alternatives j []) k h) ∙ rights_back n j k

-- the rows of a grant by an alternative of the operation table, as numbers
pub grant_numbers_lem : (mem : List ℕ) (q : Request) (user k n j : ℕ) → user ≡ user_of (policy_of mem) q.process
    → grant_numbers (policy_of mem) q user k (right_sets (get_or (operation_of n).alternatives j []))
    ≡ map numbers_of (grant_rows (contained (policy_of mem)) (policy_of mem) (request_of q) k (get_or (operation_of n).alternatives j []))
unfolding grant_numbers grant_rows
grant_numbers_lem mem q user k n j u =
    let p : Policy = policy_of mem in
    let alternative : Alternative = get_or (operation_of n).alternatives j [] in
    let a : List Asked = map (asked_at 1 q.first) (get_or alternative 0 []) in
    let b : List Asked = map (asked_at 2 q.second) (get_or alternative 1 []) in
    let c : List Asked = map (asked_at 3 q.third) (get_or alternative 2 []) in
    ap₂ ◌++◌ (set_numbers_lem p q k u 1 q.first (get_or (right_sets alternative) 0 0) (set_back n j 0 (omega arith)))
    (ap₂ ◌++◌ (set_numbers_lem p q k u 2 q.second (get_or (right_sets alternative) 1 0) (set_back n j 1 (omega arith))) (set_numbers_lem p q k u 3 q.third (get_or (right_sets alternative) 2 0) (set_back n j 2 (omega arith))))
    ∙ sym
    (ap (λ (l : List Asked). map numbers_of (joined (rows_of p q k) l)) (asked_lists alternative q.first q.second q.third)
    ∙ ap (map numbers_of) (joined_append (rows_of p q k) a (b ++ c) ∙ ap (λ (l : List Row). joined (rows_of p q k) a ++ l) (joined_append (rows_of p q k) b c))
    ∙ map-append numbers_of (joined (rows_of p q k) a) (joined (rows_of p q k) b ++ joined (rows_of p q k) c)
    ∙ ap (λ (l : List (List ℕ)). map numbers_of (joined (rows_of p q k) a) ++ l) (map-append numbers_of (joined (rows_of p q k) b) (joined (rows_of p q k) c)))
