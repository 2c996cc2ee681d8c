-- What the operation table holds, by computation over it.
-- Assumes nothing.
use mathlib.Core.Path.{◌≡◌, refl}
use mathlib.Core.Bool.{Bool, true, not, ◌&&◌}
use mathlib.Core.List.{List, [], ◌∷◌, ◌++◌, map}
use Prim.Native.Nat.{ℕ, zero, suc, ◌≤◌}
use borrow.Author.Tests.{eqb-true, leb-true}
use lib.Dec.{eqb, leb}
use lib.ListN.{length, take, get_or}
use Rattle.model.specs.Lists.{In, first, later, all_of, empty, before, precedes, rising}
use Rattle.model.specs.Request.{Kinds, Operation, no_operation, operations, operation_of, Request, Alternative, Asked, asked, asked_of, arguments_of, kinds_of, alternatives_of}
use Rattle.model.proofs.Truth.{none_in, some_in, and_cut, all_in, in_map, in_left, in_right}

-- what is read from a list passes a test that all of it pass, and so does what is read where it ends
pub all_at : {A : Type 0} (f : A → Bool) (l : List A) (n : ℕ) (d : A) → all_of f l ≡ true → f d ≡ true → f (get_or l n d) ≡ true
unfolding all_of
all_at f [] n d e k = k
all_at f (a ∷ l) zero d e k = (and_cut (f a) (all_of f l) e).0
all_at f (a ∷ l) (suc n) d e k = all_at f l n d (and_cut (f a) (all_of f l) e).1 k

-- a test that each operation passes, no operation too
pub each_operation : (f : Operation → Bool) → all_of f (no_operation ∷ operations) ≡ true → (n : ℕ) → f (operation_of n) ≡ true
unfolding operation_of all_of
each_operation f e n = all_at f (no_operation ∷ operations) n no_operation e (and_cut (f no_operation) (all_of f operations) e).0

each_alternative : (f : Alternative → Bool) → all_of (λ o. all_of f o.alternatives) (no_operation ∷ operations) ≡ true
    → (q : Request) {a : Alternative} → In a (alternatives_of q) → f a ≡ true
each_alternative f e q i = all_in f (each_operation (λ o. all_of f o.alternatives) e q.operation) i

-- by argument and right
abbrev pub asked_place : Asked → List ℕ
asked_place a = a.argument ∷ a.right ∷ []

-- what an alternative asks strictly rises by argument and right
pub asked_rise : (q : Request) {a : Alternative} → In a (alternatives_of q) → rising asked_place (asked_of a q) ≡ true
unfolding all_of operations asked rising precedes before
asked_rise q i = each_alternative (λ a. rising asked_place (asked_of a q)) refl q i

-- an alternative asks something
pub asks_some : (q : Request) {a : Alternative} → In a (alternatives_of q) → not (empty (asked_of a q)) ≡ true
unfolding all_of operations asked empty
asks_some q i = each_alternative (λ a. not (empty (asked_of a q))) refl q i

-- an operation has at most two alternatives
pub two_alternatives : (q : Request) → length (alternatives_of q) ≤ 2
unfolding all_of operations
two_alternatives q = leb-true _ 2 (each_operation (λ o. leb (length o.alternatives) 2) refl q.operation)

-- what an alternative asks over one element
pub record AsksOver (l : List Asked) (e : ℕ) : Type 0 where
  pub it : Asked
  pub there : In it l
  pub is : it.element ≡ e

-- an alternative with a right for each argument asks something over each
asked_over : (j : ℕ) (alternative : Alternative) (es : List ℕ) → all_of (λ rs. not (empty rs)) alternative ≡ true
    → {e : ℕ} → In e (take (length alternative) es) → AsksOver (asked j alternative es) e
unfolding asked all_of
asked_over j [] es h i = absurd (none_in i)
asked_over j (rs ∷ more) [] h i = absurd (none_in i)
asked_over j (rs ∷ more) (x ∷ es) h i =
    let k = and_cut (not (empty rs)) (all_of (λ r. not (empty r)) more) h in
    go (some_in rs k.0) i (asked_over (suc j) more es k.1)
  where
    here : ℕ → Asked
    here r = record { argument = j; element = x; right = r }

    go : (r : ℕ) × In r rs → {e : ℕ} → In e (x ∷ take (length more) es) → (In e (take (length more) es) → AsksOver (asked (suc j) more es) e)
        → AsksOver (map here rs ++ asked (suc j) more es) e
    go r first k = record { it = here r.0; there = in_left _ (in_map here r.1); is = refl }
    go r (later i) k = let m = k i in record { it = m.it; there = in_right (map here rs) m.there; is = m.is }

-- a right set for each argument, none empty
abbrev full : List Kinds → Alternative → Bool
full ks a = eqb (length a) (length ks) && all_of (λ rs. not (empty rs)) a

alternatives_full : (q : Request) {a : Alternative} → In a (alternatives_of q) → full (kinds_of q) a ≡ true
unfolding all_of operations empty
alternatives_full q i = all_in (full (kinds_of q)) (each_operation (λ o. all_of (full o.arguments) o.alternatives) refl q.operation) i

-- an alternative asks some right over each argument that its operation uses
pub asks_each : (q : Request) {a : Alternative} → In a (alternatives_of q) → {e : ℕ} → In e (take (length (kinds_of q)) (arguments_of q))
    → AsksOver (asked_of a q) e
asks_each q {a} i j =
    let k = and_cut (eqb (length a) (length (kinds_of q))) (all_of (λ rs. not (empty rs)) a) (alternatives_full q i) in
    asked_over 1 a (arguments_of q) k.1 (rw (eqb-true _ (length (kinds_of q)) k.0) j)
