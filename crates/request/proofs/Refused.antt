-- Which requests are refused, and with which number: each return.
-- Assumes nothing.
use mathlib.Core.Path.{◌≡◌, refl, sym, ◌∙◌}
use mathlib.Core.Bool.{Bool, true, false, not, ◌&&◌, ◌||◌}
use mathlib.Core.List.{List}
use Prim.Native.Nat.{ℕ, ◌≤◌, ◌<◌}
use borrow.Author.Tests.{le-leb, lt-leb, leb-true, eq-eqb, ne_eqb, not-true, not-false}
use lib.Dec.{leb}
use Rattle.model.specs.Policy.{is_process_id, user_of, is_process}
use Rattle.model.specs.Refusal.{refusal}
use Rattle.model.specs.Request.{is_operation, kinds_of, arguments_of, bad_arguments, absent_arguments, out_of_range, absent, mismatched}
use Rattle.model.proofs.Truth.{and_cut, or_fails}
use Rattle.table.specs.View.{policy_of}
use Rattle.request.specs.declared.Request.{Request}
use Rattle.request.specs.Asks.{request_of, refusal_of}

-- 0 is no operation
pub operation_zero : (n : ℕ) → n < 1 → false ≡ is_operation n
unfolding is_operation
operation_zero n h = simp (lt-leb 1 n h)

-- any other number is one exactly if it is at most 9
pub operation_rest : (n : ℕ) → 1 ≤ n → leb n 9 ≡ is_operation n
unfolding is_operation
operation_rest n h = simp (le-leb 1 n h)

-- an operation has a number from 1 to 9
pub operation_range : (n : ℕ) → is_operation n ≡ true → (1 ≤ n) × (n ≤ 9)
unfolding is_operation
operation_range n e = let k = and_cut (leb 1 n) (leb n 9) e in (leb-true 1 n k.0, leb-true n 9 k.1)

-- The process and the operation: each return.
module _ (q : Request) {r : Bool} (e : r ≡ is_process_id q.process) where
  -- the process is no id of one
  pub call_process : not r ≡ true → false ≡ (is_process_id q.process && is_operation q.operation)
  call_process h = rw (sym e ∙ not-true r h)

  -- it is: the operation tells
  pub call_operation : not r ≡ false → {s : Bool} → s ≡ is_operation q.operation → s ≡ (is_process_id q.process && is_operation q.operation)
  call_operation h f = rw (sym e ∙ not-false r h) f

-- What the request names is absent: each return.
module _ (mem : List ℕ) (q : Request) {u : ℕ} (e : u ≡ user_of (policy_of mem) q.process) where
  -- the process is
  pub absent_process : u ≡ 0 → true ≡ absent (policy_of mem) (request_of q)
  unfolding absent is_process
  absent_process h = rw (eq-eqb (user_of (policy_of mem) q.process) 0 (sym e ∙ h))

  -- it is not: the arguments tell
  pub absent_arguments_lem : (u ≡ 0 → ⊥) → {t : Bool} → t ≡ absent_arguments (policy_of mem) (kinds_of (request_of q)) (arguments_of (request_of q))
      → t ≡ absent (policy_of mem) (request_of q)
  unfolding absent is_process
  absent_arguments_lem h g = rw (ne_eqb (user_of (policy_of mem) q.process) 0 (λ z. h (e ∙ z))) g

-- what is not out of range has an operation
pub has_operation : (q : Request) → out_of_range (request_of q) ≡ false → is_operation q.operation ≡ true
unfolding out_of_range
has_operation q e =
    let x : Bool = not (is_process_id q.process) in
    let y : Bool = not (is_operation q.operation) in
    let z : Bool = bad_arguments (kinds_of (request_of q)) (arguments_of (request_of q)) in
    not-false (is_operation q.operation) (or_fails x y (or_fails (x || y) z e).0).1

-- where two are not both so, one of them is not, whatever the third is
not_both : (a b c : Bool) → (a && b) ≡ false → (not a || not b || c) ≡ true
not_both true b c e = rw e
not_both false b c e = refl

-- The refusal: each return.
module _ (q : Request) {r : Bool} (e : r ≡ (is_process_id q.process && is_operation q.operation)) where
  -- the process or the operation is out of range
  pub gives_2_first : (mem : List ℕ) → not r ≡ true → 2 ≡ refusal_of mem q
  unfolding refusal out_of_range
  gives_2_first mem h =
      rw (not_both (is_process_id q.process) (is_operation q.operation) (bad_arguments (kinds_of (request_of q)) (arguments_of (request_of q))) (sym e ∙ not-true r h))

  module _ (h : not r ≡ false) where
    -- both are in range
    both : (is_process_id q.process ≡ true) × (is_operation q.operation ≡ true)
    both = and_cut (is_process_id q.process) (is_operation q.operation) (sym e ∙ not-false r h)

    -- the operation is at most 9
    pub operation_told : q.operation ≤ 9
    operation_told = (operation_range q.operation both.1).1

    module _ (mem : List ℕ) {a : Bool} (d : a ≡ bad_arguments (kinds_of (request_of q)) (arguments_of (request_of q))) where
      -- the arguments tell what is out of range
      range_told : out_of_range (request_of q) ≡ a
      unfolding out_of_range
      range_told = rw (both.0, both.1) (sym d)

      -- an argument is out of range
      pub gives_2 : a ≡ true → 2 ≡ refusal_of mem q
      unfolding refusal
      gives_2 g = rw (range_told ∙ g)

      module _ (g : a ≡ false) {s : Bool} (f : s ≡ absent (policy_of mem) (request_of q)) where
        -- absent
        pub gives_4 : s ≡ true → 4 ≡ refusal_of mem q
        unfolding refusal
        gives_4 i = rw (range_told ∙ g, sym f ∙ i)

        module _ (i : s ≡ false) {t : Bool} (k : t ≡ mismatched (policy_of mem) (request_of q)) where
          -- of another kind
          pub gives_5 : t ≡ true → 5 ≡ refusal_of mem q
          unfolding refusal
          gives_5 j = rw (range_told ∙ g, sym f ∙ i, sym k ∙ j)

          -- none of these
          pub gives_none : t ≡ false → 0 ≡ refusal_of mem q
          unfolding refusal
          gives_none j = rw (range_told ∙ g, sym f ∙ i, sym k ∙ j)
