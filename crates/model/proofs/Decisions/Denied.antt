-- The rows of a deny: one for each alternative, in order, with its first failing right.
-- Assumes nothing.
use mathlib.Core.Path.{◌≡◌, refl, ap}
use mathlib.Core.Bool.{Bool, true, false, not}
use mathlib.Core.List.{List, [], ◌∷◌}
use Prim.Native.Nat.{ℕ, zero, suc, ◌+◌, ◌<◌}
use native.Mathlib.Nat.{add-zero, add-suc, suc-add}
use native.Mathlib.Omega.{arith}
use lib.ListN.{length, get_or}
use Rattle.model.specs.Lists.{In, first, later, all_of, those}
use Rattle.model.specs.Policy.{Policy}
use Rattle.model.specs.Request.{Request, Alternative, asked_of, alternatives_of, deny, permitted, satisfied, verdict}
use Rattle.model.specs.Explain.{Row, failing, deny_row, first_failing, deny_rows}
use Rattle.model.proofs.Truth.{fails_when, clash}
use Rattle.model.specs.RowRule.{FirstFailing, DenyRowOf}
use Rattle.model.proofs.Decisions.Decision.{satisfied_says, deny_says}

-- a list not all of which passes has a first that fails, and it is the first of those that fail
module _ {A : Type 0} (test : A → Bool) where
  record First (l : List A) : Type 0 where
    at : FirstFailing test l
    rest : List A
    those_are : those (λ a. not (test a)) l ≡ at.it ∷ rest

  first_failing_lem : (l : List A) → all_of test l ≡ false → First l
  unfolding all_of those
  first_failing_lem [] e = absurd (clash refl e)
  first_failing_lem (a ∷ l) e = go (test a) refl (first_failing_lem l)
    where
      go : (t : Bool) → test a ≡ t → (all_of test l ≡ false → First l) → First (a ∷ l)
      go true t k =
          let m = k (rw t at e) in
          record {
            at = record {
              front = a ∷ m.at.front;
              it = m.at.it;
              behind = m.at.behind;
              parts = ap {B = List A} (λ r. a ∷ r) m.at.parts;
              passed = rw t m.at.passed;
              fails = m.at.fails;
            };
            rest = m.rest;
            those_are = rw t m.those_are;
          }
      go false t k =
          record {
            at = record { front = []; it = a; behind = l; parts = refl; passed = refl; fails = t };
            rest = those (λ b. not (test b)) l;
            those_are = rw t;
          }

module _ (W : ℕ → ℕ → Bool) (p : Policy) (q : Request) where
  -- the rows of alternatives none of which is satisfied, counted from j
  module _ (j : ℕ) (a : Alternative) (l : List Alternative) where
    deny_more : satisfied W p q a ≡ false
        → (s : FirstFailing (permitted W p q) (asked_of a q)) × (deny_rows W p q j (a ∷ l) ≡ deny_row W p q j s.it ∷ deny_rows W p q (suc j) l)
    unfolding satisfied deny_rows first_failing failing
    deny_more e = let s = first_failing_lem (permitted W p q) (asked_of a q) e in (s.at, rw s.those_are)

    deny_now : satisfied W p q a ≡ false → (d : Row) → DenyRowOf W p q (j + 0) a (get_or (deny_rows W p q j (a ∷ l)) 0 d)
    deny_now e d = let s = deny_more e in rw (s.1, add-zero j) (record { first = s.0; is = refl })

    deny_later : satisfied W p q a ≡ false → (i : ℕ) (b : Alternative) (d : Row) → DenyRowOf W p q (suc j + i) b (get_or (deny_rows W p q (suc j) l) i d)
        → DenyRowOf W p q (j + suc i) b (get_or (deny_rows W p q j (a ∷ l)) (suc i) d)
    deny_later e i b d h = rw ((deny_more e).1, add-suc j i, ← (suc-add j i)) h

  deny_length : (j : ℕ) (l : List Alternative) → ((a : Alternative) → In a l → satisfied W p q a ≡ false) → length (deny_rows W p q j l) ≡ length l
  unfolding deny_rows
  deny_length j [] h = refl
  deny_length j (a ∷ l) h = rw (deny_more j a l (h a first)).1 (ap suc (deny_length (suc j) l (λ b i. h b (later i))))

  deny_at : (j : ℕ) (l : List Alternative) → ((a : Alternative) → In a l → satisfied W p q a ≡ false)
      → (i : ℕ) → i < length l → (d : Row) → DenyRowOf W p q (j + i) (get_or l i []) (get_or (deny_rows W p q j l) i d)
  deny_at j [] h i e d = absurd (omega arith)
  deny_at j (a ∷ l) h zero e d = deny_now j a l (h a first) d
  deny_at j (a ∷ l) h (suc i) e d = deny_later j a l (h a first) i (get_or l i []) d (deny_at (suc j) l (λ b m. h b (later m)) i (omega arith) d)

  denied_none : verdict W p q ≡ deny → (a : Alternative) → In a (alternatives_of q) → satisfied W p q a ≡ false
  denied_none h a i = fails_when _ (λ s. deny_says W p q h a i (satisfied_says W p q a s))

  -- "Deny: one row for each alternative"
  pub deny_rows_count : verdict W p q ≡ deny → length (deny_rows W p q 1 (alternatives_of q)) ≡ length (alternatives_of q)
  deny_rows_count h = deny_length 1 (alternatives_of q) (denied_none h)

  -- "with its first failing argument and right": row i is that of alternative i, which has number i + 1
  pub deny_row_first : verdict W p q ≡ deny → (i : ℕ) → i < length (alternatives_of q) → (d : Row)
      → DenyRowOf W p q (i + 1) (get_or (alternatives_of q) i []) (get_or (deny_rows W p q 1 (alternatives_of q)) i d)
  deny_row_first h i l d = let e : i + 1 ≡ 1 + i = omega arith in rw e (deny_at 1 (alternatives_of q) (denied_none h) i l d)

  -- and so names it by that number
  pub deny_row_number : verdict W p q ≡ deny → (i : ℕ) → i < length (alternatives_of q) → (d : Row)
      → (get_or (deny_rows W p q 1 (alternatives_of q)) i d).alternative ≡ i + 1
  unfolding deny_row
  deny_row_number h i l d = ap (λ r. r.alternative) (deny_row_first h i l d).is
