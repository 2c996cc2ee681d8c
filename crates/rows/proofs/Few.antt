-- How many rows an explanation has at most: three rights asked over 511 classes each.
-- Assumes nothing.
use mathlib.Core.Path.{◌≡◌, refl}
use mathlib.Core.Bool.{Bool, true}
use mathlib.Core.List.{List, [], ◌∷◌, map}
use Prim.Native.Nat.{ℕ, zero, suc, pred, ◌*◌, ◌≤◌}
use native.Mathlib.Omega.{arith}
use lib.Dec.{eqb, leb}
use lib.ListN.{length, get_or, length-append, length-map}
use borrow.Author.Tests.{leb-true}
use Rattle.model.specs.Lists.{all_of, tabulate, those}
use Rattle.model.specs.Policy.{Element, Policy, class, is_kind}
use Rattle.model.specs.Rule.{classes, classes_of}
use Rattle.model.specs.Request.{Request, Asked, Verdict, grant, deny, verdict, no_operation, operations, operation_of, asked, asked_of, alternatives_of}
use Rattle.model.specs.Explain.{joined, grant_row, grant_rows, rows_of, rows}
use Rattle.model.proofs.Truth.{and_cut}
use Rattle.model.proofs.Groups.{those_length}
use Rattle.model.proofs.Indexed.{length_tabulate}
use Rattle.model.proofs.Decisions.Rows.{deny_rows_few}
use Rattle.table.specs.Layout.{kind_word}
use Rattle.table.specs.View.{elements_of, policy_of}

-- what each passes passes at each place
each_at : {A : Type 0} (f : A → Bool) (l : List A) (n : ℕ) (d : A) → all_of f l ≡ true → f d ≡ true → f (get_or l n d) ≡ true
unfolding all_of
each_at f [] n d e k = k
each_at f (a ∷ l) zero d e k = (and_cut (f a) (all_of f l) e).0
each_at f (a ∷ l) (suc n) d e k = each_at f l n d (and_cut (f a) (all_of f l) e).1 k

-- an alternative asks at most three rights
few_asked : (q : Request) (n : ℕ) → length (asked_of (get_or (alternatives_of q) n []) q) ≤ 3
unfolding all_of operations operation_of asked
few_asked q n =
    leb-true _ 3
    (each_at (λ a. leb (length (asked_of a q)) 3) (alternatives_of q) n []
    (each_at (λ o. all_of (λ a. leb (length (asked_of a q)) 3) o.alternatives) (no_operation ∷ operations) q.operation no_operation refl refl) refl)

-- at most 511 for each
few_joined : {A B : Type 0} (f : A → List B) → ((a : A) → length (f a) ≤ 511) → (l : List A) → length (joined f l) ≤ length l * 511
unfolding joined
few_joined f h [] = omega arith
few_joined f h (a ∷ l) = let few = h a in let rest = few_joined f h l in let both = length-append (f a) (joined f l) in omega arith

module _ (W : ℕ → ℕ → Bool) (p : Policy) (few : length p.elements ≤ 511) where
  -- an element has at most 511 classes
  few_classes : (E : ℕ → Bool) → length (classes_of E p) ≤ 511
  unfolding classes_of classes
  few_classes E =
      let its = those_length E (classes p) in
      let ids = length-map (those (λ (e : Element). eqb e.kind class) p.elements) (λ e. e.id) in
      let kinds = those_length (λ (e : Element). eqb e.kind class) p.elements in
      omega arith

  module _ (q : Request) where
    -- a grant has at most 1,533 rows
    few_granted : (k n : ℕ) → length (grant_rows W p q k (get_or (alternatives_of q) n [])) ≤ 1533
    unfolding grant_rows
    few_granted k n =
        let over : (a : Asked) → length (map (grant_row W p q k a) (classes_of (W a.element) p)) ≤ 511 =
        λ a. let same = length-map (classes_of (W a.element) p) (grant_row W p q k a) in let few = few_classes (W a.element) in omega arith in
        let all = few_joined (λ a. map (grant_row W p q k a) (classes_of (W a.element) p)) over (asked_of (get_or (alternatives_of q) n []) q) in
        let three = few_asked q n in
        omega arith

    -- so the explanation of a grant
    granted : (k : ℕ) → verdict W p q ≡ grant k → length (rows W p q) ≤ 1533
    unfolding rows rows_of
    granted k e = rw e (few_granted k (pred k))

    -- an explanation has at most 1,533 rows
    pub few_rows : length (rows W p q) ≤ 1533
    few_rows = go (verdict W p q) refl
      where
        go : (v : Verdict) → verdict W p q ≡ v → length (rows W p q) ≤ 1533
        go (grant k) e = granted k e
        go deny e = let few = deny_rows_few W p q e in omega arith

-- a memory's policy has at most 511 elements
pub few_elements : (mem : List ℕ) → length (policy_of mem).elements ≤ 511
unfolding policy_of elements_of
few_elements mem =
    let all = those_length (λ (e : Element). is_kind e.kind) (tabulate 511 (λ i. record { id = suc i; kind = kind_word mem (suc i) })) in
    let n = length_tabulate {A = Element} 511 (λ i. record { id = suc i; kind = kind_word mem (suc i) }) in
    omega arith
