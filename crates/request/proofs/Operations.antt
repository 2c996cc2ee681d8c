-- The operation table in numbers: what the code's arrays hold, and what holds of every operation, by computation over the table.
-- Assumes nothing.
use mathlib.Core.Path.{◌≡◌, refl, sym}
use mathlib.Core.Bool.{Bool, true, false, not, cond, ◌&&◌}
use mathlib.Core.List.{List, [], ◌∷◌, map}
use Prim.Native.Nat.{ℕ, zero, suc, ◌≤◌, ◌<◌}
use native.Mathlib.Omega.{arith}
use borrow.Author.Tests.{eqb-true, leb-true, not-true, eq-eqb, ne_eqb}
use lib.Dec.{eqb, leb}
use lib.ListN.{length, get_or, drop}
use Rattle.model.specs.Lists.{all_of, any_of, those, tabulate, member, same, two, three}
use Rattle.model.specs.Policy.{has_right}
use Rattle.model.specs.Request.{Kinds, Rights, Alternative, Operation, no_operation, operations, operation_of}
use Rattle.model.proofs.Truth.{and_cut}
use Rattle.model.proofs.Order.{same_equal}
use Rattle.model.proofs.Decisions.Table.{all_at, each_operation}
use Rattle.model.proofs.Indexed.{length_tabulate, get_d_tabulate}
use Rattle.request.specs.Sets.{set_of, kind_sets, right_sets, capabilities, rights_in}

module _ {A : Type 0} where
  -- what is read from a list before it ends passes a test that all of it pass
  all_before : (f : A → Bool) (l : List A) (n : ℕ) (d : A) → all_of f l ≡ true → n < length l → f (get_or l n d) ≡ true
  unfolding all_of
  all_before f [] n d e h = absurd (omega arith)
  all_before f (a ∷ l) zero d e h = (and_cut (f a) (all_of f l) e).0
  all_before f (a ∷ l) (suc n) d e h = all_before f l n d (and_cut (f a) (all_of f l) e).1 (omega arith)

  -- what is read from a list of results is the result of what is read
  read_map : {B : Type 0} (f : A → B) (l : List A) (n : ℕ) (d : A) (o : B) → n < length l → get_or (map f l) n o ≡ f (get_or l n d)
  read_map f [] n d o h = absurd (omega arith)
  read_map f (a ∷ l) zero d o h = refl
  read_map f (a ∷ l) (suc n) d o h = read_map f l n d o (omega arith)

-- what is read behind the first of a list of lists
pub rest_at : (l : List (List ℕ)) (n : ℕ) → get_or (drop 1 l) n [] ≡ get_or l (suc n) []
rest_at [] n = refl
rest_at (a ∷ l) n = refl

-- a test that each of the nine operations passes
each_of_nine : (f : Operation → Bool) → all_of f operations ≡ true → (n : ℕ) → 1 ≤ n → n ≤ 9 → f (operation_of n) ≡ true
unfolding operation_of operations
each_of_nine f e zero l h = absurd (omega arith)
each_of_nine f e (suc n) l h = all_before f operations n no_operation e (omega arith)

-- the kinds as the code has them
abbrev pub kind_table : List (List ℕ)
kind_table =
    three 0 0 0
    ∷ three 8 0 0
    ∷ three 8 0 0
    ∷ three 8 0 0
    ∷ three 8 0 0
    ∷ three 8 16 16
    ∷ three 8 16 0
    ∷ three 30 30 0
    ∷ three 30 30 0
    ∷ three 4 28 0
    ∷ []

-- they are the operation table's
pub kinds_listed : (n : ℕ) → n ≤ 9 → get_or kind_table n [] ≡ kind_sets n
unfolding kind_sets set_of operation_of operations
kinds_listed n h =
    read_map
    (λ (o : Operation). three (set_of (get_or o.arguments 0 [])) (set_of (get_or o.arguments 1 [])) (set_of (get_or o.arguments 2 [])))
    (no_operation ∷ operations)
    n
    no_operation
    []
    (omega arith)

-- the rights as the code has them
abbrev pub right_table : List (List (List ℕ))
right_table =
    two (three 0 0 0) (three 0 0 0)
    ∷ two (three 1 0 0) (three 0 0 0)
    ∷ two (three 2 0 0) (three 0 0 0)
    ∷ two (three 4 0 0) (three 1 0 0)
    ∷ two (three 9 0 0) (three 0 0 0)
    ∷ two (three 16 32 64) (three 2 32 64)
    ∷ two (three 1 64 0) (three 8 2 0)
    ∷ two (three 128 256 0) (three 0 0 0)
    ∷ two (three 512 1024 0) (three 0 0 0)
    ∷ two (three 2048 4096 0) (three 0 0 0)
    ∷ []

-- they are the operation table's
pub rights_listed : (n : ℕ) → n ≤ 9 → get_or right_table n [] ≡ capabilities n
unfolding capabilities right_sets set_of operation_of operations
rights_listed n h =
    read_map
    (λ (o : Operation). two (right_sets (get_or o.alternatives 0 [])) (right_sets (get_or o.alternatives 1 [])))
    (no_operation ∷ operations)
    n
    no_operation
    []
    (omega arith)

-- both are so, or neither
unfoldable pub alike : Bool → Bool → Bool
alike a b = cond a b (not b)

-- then they are the same
same_tests : (a b : Bool) → alike a b ≡ true → a ≡ b
unfolding alike
same_tests true b e = sym e
same_tests false b e = sym (not-true b e)

-- kinds as a set are not none, and a kind is in the set exactly if it is one of them
unfoldable pub fits : Kinds → Bool
fits ks = not (eqb (set_of ks) 0) && all_of (λ k. alike (has_right (set_of ks) k) (member k ks)) (tabulate 6 (λ k. k))

-- so it is with every argument of the operation table
pub kinds_fit : (n : ℕ) → all_of fits (operation_of n).arguments ≡ true
unfolding fits alike all_of any_of member tabulate has_right set_of operations
kinds_fit n = each_operation (λ o. all_of fits o.arguments) refl n

-- the set of the kinds of an argument that is used is not none
pub fits_some : (ks : Kinds) → fits ks ≡ true → eqb (set_of ks) 0 ≡ false
unfolding fits
fits_some ks e = not-true (eqb (set_of ks) 0) (and_cut (not (eqb (set_of ks) 0)) (all_of (λ k. alike (has_right (set_of ks) k) (member k ks)) (tabulate 6 (λ k. k))) e).0

-- a kind is in the set exactly if it is one of them
pub fits_member : (ks : Kinds) (k : ℕ) → fits ks ≡ true → k ≤ 5 → has_right (set_of ks) k ≡ member k ks
unfolding fits
fits_member ks k e h =
    let t : ℕ → Bool = λ j. alike (has_right (set_of ks) j) (member j ks) in
    let l : List ℕ = tabulate 6 (λ j. j) in
    let n : length l ≡ 6 = length_tabulate 6 (λ j. j) in
    let g : get_or l k 0 ≡ k = get_d_tabulate 6 (λ j. j) k 0 (omega arith) in
    same_tests (has_right (set_of ks) k) (member k ks) (rw g at (all_before t l k 0 (and_cut (not (eqb (set_of ks) 0)) (all_of t l) e).1 (omega arith)))

-- the rights of a set are the rights that it is the set of
unfoldable returns_to : Rights → Bool
returns_to rs = same (rights_in (set_of rs)) rs

-- so it is with all of a list
unfoldable return_to : Alternative → Bool
return_to alternative = all_of returns_to alternative

-- no right
none_back : returns_to [] ≡ true
unfolding returns_to all_of same rights_in those tabulate has_right set_of
none_back = refl

-- no alternative
no_alternative_back : return_to [] ≡ true
unfolding return_to all_of
no_alternative_back = refl

-- every alternative of the table
alternatives_back : (n : ℕ) → all_of return_to (operation_of n).alternatives ≡ true
unfolding return_to returns_to all_of operations same rights_in those tabulate has_right set_of
alternatives_back n = each_operation (λ o. all_of return_to o.alternatives) refl n

-- each set of such an alternative
sets_back : (alternative : Alternative) (k : ℕ) → return_to alternative ≡ true → rights_in (set_of (get_or alternative k [])) ≡ get_or alternative k []
unfolding return_to returns_to
sets_back alternative k e = same_equal (rights_in (set_of (get_or alternative k []))) (get_or alternative k []) (all_at returns_to alternative k [] e none_back)

-- the rights of each set of the table are the rights that it is the set of
pub rights_back : (n j k : ℕ)
    → rights_in (set_of (get_or (get_or (operation_of n).alternatives j []) k [])) ≡ get_or (get_or (operation_of n).alternatives j []) k []
rights_back n j k =
    sets_back (get_or (operation_of n).alternatives j []) k (all_at return_to (operation_of n).alternatives j [] (alternatives_back n) no_alternative_back)

-- an operation has at most two alternatives
pub few_alternatives : (n : ℕ) → length (operation_of n).alternatives ≤ 2
unfolding all_of operations
few_alternatives n = leb-true _ 2 (each_operation (λ o. leb (length o.alternatives) 2) refl n)

-- each of the nine operations has one
pub some_alternative : (n : ℕ) → 1 ≤ n → n ≤ 9 → 1 ≤ length (operation_of n).alternatives
unfolding all_of operations
some_alternative n l h = leb-true 1 _ (each_of_nine (λ o. leb 1 (length o.alternatives)) refl n l h)

-- what an operation's second alternative asks of the first argument, as a set: 0 exactly where there is no second alternative
abbrev pub second_set : (operation : ℕ) → ℕ
second_set n = set_of (get_or (get_or (operation_of n).alternatives 1 []) 0 [])

-- its number of alternatives, by that set
second_tells : (n : ℕ) → cond (eqb (second_set n) 0) (leb (length (operation_of n).alternatives) 1) (eqb (length (operation_of n).alternatives) 2) ≡ true
unfolding all_of operations set_of
second_tells n =
    each_operation (λ o. cond (eqb (set_of (get_or (get_or o.alternatives 1 []) 0 [])) 0) (leb (length o.alternatives) 1) (eqb (length o.alternatives) 2)) refl n

-- the second alternative asks nothing: there is just one
pub second_none : (n : ℕ) → second_set n ≡ 0 → length (operation_of n).alternatives ≤ 1
second_none n e = leb-true _ 1 (rw (eq-eqb (second_set n) 0 e) at (second_tells n))

-- it asks something: there are two
pub second_some : (n : ℕ) → (second_set n ≡ 0 → ⊥) → length (operation_of n).alternatives ≡ 2
second_some n d = eqb-true _ 2 (rw (ne_eqb (second_set n) 0 d) at (second_tells n))
