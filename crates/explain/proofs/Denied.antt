-- The explanation of a deny: a row for each of the operation's alternatives, of which there are one or two.
-- Assumes nothing.
use mathlib.Core.Path.{◌≡◌, refl, sym, ap, ap₂, ◌∙◌}
use mathlib.Core.Bool.{Bool, false}
use mathlib.Core.List.{List, [], ◌∷◌, ◌++◌, map, append-nil}
use Prim.Native.Nat.{ℕ, zero, suc, ◌≤◌, ◌<◌}
use native.Mathlib.Omega.{arith}
use lib.ListN.{length, get_or, set}
use Rattle.model.specs.Lists.{In, first, later}
use Rattle.model.specs.Policy.{Policy, user_of}
use Rattle.model.specs.Contain.{contained}
use Rattle.model.specs.Request.{Request as Asks, Alternative, alternatives_of, satisfied, deny, verdict}
use Rattle.model.specs.Explain.{Row, failing, first_failing, deny_rows}
use Rattle.model.proofs.Truth.{fails_when}
use Rattle.model.proofs.Decisions.Decision.{satisfied_says, deny_says}
use Rattle.model.proofs.Decisions.Rows.{denied_rows}
use Rattle.table.specs.View.{policy_of}
use Rattle.request.specs.declared.Request.{Request}
use Rattle.request.specs.Sets.{right_sets, capabilities}
use Rattle.request.specs.Asks.{request_of, Accepted}
use Rattle.request.proofs.Operations.{some_alternative, second_set, second_none, second_some}
use Rattle.request.proofs.Accepts.{operation_some}
use Rattle.request.proofs.Alternatives.{first_sets, second_sets, second_read}
use Rattle.decide.specs.Asks.{satisfies}
use Rattle.decide.proofs.Chosen.{satisfies_says}
use Rattle.denials.specs.Failing.{deny_numbers}
use Rattle.denials.proofs.DenyRows.{deny_numbers_row}
use Rattle.std.specs.Prelude.{Ok, Err}
use Rattle.answer.specs.declared.Refusal.TheVariants.{NoRoom}
use Rattle.answer.specs.Answers as answers
use Rattle.explain.specs.declared.Explanation.TheVariants.{Deny}
use Rattle.explain.specs.Answers.{explained_by, numbers_of, left, numbers, explained}
use Rattle.explain.proofs.Filled.{too_few, filled, set_one, set_two}

-- what stands at a place of a list is in it
in_at : {A : Type 0} (l : List A) (i : ℕ) (d : A) → i < length l → In (get_or l i d) l
in_at [] i d h = absurd (omega arith)
in_at (a ∷ l) zero d h = first
in_at (a ∷ l) (suc i) d h = later (in_at l i d (omega arith))

-- The rows of a deny.
module _ (W : ℕ → ℕ → Bool) (p : Policy) (q : Asks) where
  -- no alternative of a request that is denied is satisfied
  none_satisfied : verdict W p q ≡ deny → (j : ℕ) → j < length (alternatives_of q) → satisfied W p q (get_or (alternatives_of q) j []) ≡ false
  none_satisfied v j h =
      fails_when _ (λ s. deny_says W p q v (get_or (alternatives_of q) j []) (in_at (alternatives_of q) j [] h) (satisfied_says W p q (get_or (alternatives_of q) j []) s))

  -- of one alternative
  rows_of_one : (l : List Alternative) → 1 ≤ length l → length l ≤ 1 → deny_rows W p q 1 l ≡ first_failing W p q 1 (failing W p q (get_or l 0 []))
  unfolding deny_rows
  rows_of_one [] n h = absurd (omega arith)
  rows_of_one (a ∷ []) n h = append-nil (first_failing W p q 1 (failing W p q a))
  rows_of_one (a ∷ b ∷ l) n h = absurd (omega arith)

  -- of two
  rows_of_two : (l : List Alternative) → length l ≡ 2
      → deny_rows W p q 1 l ≡ first_failing W p q 1 (failing W p q (get_or l 0 [])) ++ first_failing W p q 2 (failing W p q (get_or l 1 []))
  unfolding deny_rows
  rows_of_two [] h = absurd (omega arith)
  rows_of_two (a ∷ []) h = absurd (omega arith)
  rows_of_two (a ∷ b ∷ []) h = ap (λ l. first_failing W p q 1 (failing W p q a) ++ l) (append-nil (first_failing W p q 2 (failing W p q b)))
  rows_of_two (a ∷ b ∷ c ∷ l) h = absurd (omega arith)

-- results of two lists
map-append : {A B : Type 0} (f : A → B) (l m : List A) → map f (l ++ m) ≡ map f l ++ map f m
map-append f [] m = refl
map-append {B = B} f (a ∷ l) m = ap (λ (n : List B). f a ∷ n) (map-append f l m)

-- A request that is denied, with its alternatives as the code reads them.
module _ {mem : List ℕ} {q : Request} {user : ℕ} {alternatives : List (List ℕ)} (k : Accepted mem q) (u : user ≡ user_of (policy_of mem) q.process)
    (v : verdict (contained (policy_of mem)) (policy_of mem) (request_of q) ≡ deny) (c : alternatives ≡ capabilities q.operation) where
  -- the sets of alternative j, which is not satisfied
  unsatisfied : (j : ℕ) → j < length (alternatives_of (request_of q))
      → satisfies (contained (policy_of mem)) (policy_of mem) q user (right_sets (get_or (alternatives_of (request_of q)) j [])) ≡ false
  unsatisfied j h =
      rw u (satisfies_says (contained (policy_of mem)) (policy_of mem) q j ∙ none_satisfied (contained (policy_of mem)) (policy_of mem) (request_of q) v j h)

  -- the row of alternative j, numbered n
  abbrev row_for : (n j : ℕ) → List Row
  row_for n j =
      first_failing (contained (policy_of mem)) (policy_of mem) (request_of q) n
      (failing (contained (policy_of mem)) (policy_of mem) (request_of q) (get_or (alternatives_of (request_of q)) j []))

  -- it is one
  row_of : (n j : ℕ) → j < length (alternatives_of (request_of q))
      → map numbers_of (row_for n j)
      ≡ deny_numbers (policy_of mem) q user n (right_sets (get_or (alternatives_of (request_of q)) j [])) ∷ []
  row_of n j h = deny_numbers_row mem q n u j (none_satisfied (contained (policy_of mem)) (policy_of mem) (request_of q) v j h)

  -- there is a first alternative
  has_first : 0 < length (alternatives_of (request_of q))
  has_first = omega (arith, some_alternative q.operation (operation_some k) k.operation)

  -- its sets, as the code reads them
  firsts : get_or alternatives 0 [] ≡ right_sets (get_or (alternatives_of (request_of q)) 0 [])
  firsts = ap (λ (l : List (List ℕ)). get_or l 0 []) c ∙ first_sets q.operation

  -- those of the second
  seconds : get_or alternatives 1 [] ≡ right_sets (get_or (alternatives_of (request_of q)) 1 [])
  seconds = ap (λ (l : List (List ℕ)). get_or l 1 []) c ∙ second_sets q.operation

  -- what the second asks of the first argument
  second_asks : get_or (get_or alternatives 1 []) 0 0 ≡ second_set q.operation
  second_asks = ap (λ (l : List (List ℕ)). get_or (get_or l 1 []) 0 0) c ∙ second_read q.operation

  -- the first alternative is not satisfied
  pub first_fails : satisfies (contained (policy_of mem)) (policy_of mem) q user (get_or alternatives 0 []) ≡ false
  first_fails = rw firsts (unsatisfied 0 has_first)

  -- There is no second alternative.
  module _ (z : get_or (get_or alternatives 1 []) 0 0 ≡ 0) where
    -- the row is that of the first
    one_row : numbers (policy_of mem) (request_of q) ≡ deny_numbers (policy_of mem) q user 1 (get_or alternatives 0 []) ∷ []
    unfolding numbers
    one_row =
        ap (map numbers_of) (denied_rows (contained (policy_of mem)) (policy_of mem) (request_of q) v
        ∙ rows_of_one (contained (policy_of mem)) (policy_of mem) (request_of q) (alternatives_of (request_of q)) has_first (second_none q.operation (sym second_asks ∙ z)))
        ∙ row_of 1 0 has_first
        ∙ ap (λ (l : List ℕ). deny_numbers (policy_of mem) q user 1 l ∷ []) (sym firsts)

    -- no row is lent
    pub one_refused : (out : List (List ℕ)) → length out < 1 → left (Err NoRoom) out ≡ explained (policy_of mem) (request_of q) out
    one_refused out h = too_few (policy_of mem) (request_of q) out one_row h

    -- the row is written
    pub one_filled : (out : List (List ℕ)) → 1 ≤ length out → {a : List ℕ} → a ≡ deny_numbers (policy_of mem) q user 1 (get_or alternatives 0 [])
        → left (Ok (Deny 1)) (set out 0 a) ≡ explained (policy_of mem) (request_of q) out
    unfolding answers.told explained_by
    one_filled out h {a} e =
        filled (policy_of mem) (request_of q) out (one_row ∙ ap (λ (b : List ℕ). b ∷ []) (sym e)) h (Ok (Deny 1)) (rw v) (set_one out a h)

  -- There is one.
  module _ (d : get_or (get_or alternatives 1 []) 0 0 ≡ 0 → ⊥) where
    -- so there are two
    has_two : length (alternatives_of (request_of q)) ≡ 2
    has_two = second_some q.operation (λ z. d (second_asks ∙ z))

    -- the second alternative is not satisfied
    pub second_fails : satisfies (contained (policy_of mem)) (policy_of mem) q user (get_or alternatives 1 []) ≡ false
    second_fails = rw seconds (unsatisfied 1 (omega (arith, has_two)))

    -- the rows are theirs
    two_rows : numbers (policy_of mem) (request_of q) ≡ deny_numbers (policy_of mem) q user 1 (get_or alternatives 0 []) ∷ deny_numbers (policy_of mem) q user 2 (get_or alternatives 1 []) ∷ []
    unfolding numbers
    two_rows =
        ap (map numbers_of) (denied_rows (contained (policy_of mem)) (policy_of mem) (request_of q) v
        ∙ rows_of_two (contained (policy_of mem)) (policy_of mem) (request_of q) (alternatives_of (request_of q)) has_two)
        ∙ map-append numbers_of (row_for 1 0) (row_for 2 1)
        ∙ ap₂ ◌++◌ (row_of 1 0 has_first) (row_of 2 1 (omega (arith, has_two)))
        ∙ ap₂ (λ (l m : List ℕ). deny_numbers (policy_of mem) q user 1 l ∷ deny_numbers (policy_of mem) q user 2 m ∷ []) (sym firsts) (sym seconds)

    -- fewer rows are lent
    pub two_refused : (out : List (List ℕ)) → length out < 2 → left (Err NoRoom) out ≡ explained (policy_of mem) (request_of q) out
    two_refused out h = too_few (policy_of mem) (request_of q) out two_rows h

    -- both rows are written
    pub two_filled : (out : List (List ℕ)) → 2 ≤ length out → {a b : List ℕ} → a ≡ deny_numbers (policy_of mem) q user 1 (get_or alternatives 0 [])
        → b ≡ deny_numbers (policy_of mem) q user 2 (get_or alternatives 1 []) → left (Ok (Deny 2)) (set (set out 0 a) 1 b) ≡ explained (policy_of mem) (request_of q) out
    unfolding answers.told explained_by
    two_filled out h {a} {b} e f =
        filled (policy_of mem) (request_of q) out (two_rows ∙ ap₂ (λ (x y : List ℕ). x ∷ y ∷ []) (sym e) (sym f)) h (Ok (Deny 2)) (rw v) (set_two out a b h)
