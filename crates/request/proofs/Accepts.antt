-- What is known of a request that is not refused, and what the decision, plain and by the index, and the explanation answer by the refusal.
-- Assumes nothing.
use mathlib.Core.Path.{◌≡◌, refl, sym, ◌∙◌}
use mathlib.Core.Bool.{Bool, true, false, not, cond, ◌&&◌, ◌||◌}
use mathlib.Core.List.{List}
use mathlib.Core.Logic.{inl, inr}
use Prim.Native.Nat.{ℕ, ◌≤◌, ◌<◌}
use native.Mathlib.Omega.{arith}
use native.Mathlib.Decide.{dec_lt}
use borrow.Author.Tests.{eqb-true, leb-true, not-false}
use lib.Dec.{eqb, leb, ltb}
use lib.ListN.{length, get_or}
use Rattle.model.specs.Lists.{all_of, one}
use Rattle.model.specs.Policy.{Policy, is_element_id, is_process_id, user_of}
use Rattle.model.specs.Refusal.{◌when◌, First, None, past, refused, accepted, proper, answer}
use Rattle.model.specs.Request.{Request as Asks, is_operation, kinds_of, arguments_of, bad_arguments, out_of_range, request_lines, verdict, decision, indexed_decision}
use Rattle.model.specs.Explain.{rows, explanation}
use Rattle.model.proofs.Truth.{and_cut, or_fails}
use Rattle.model.proofs.Refusals.{first_refused, none_accepted, refusal_none, refusal_first, refused_still, accepted_then}
use Rattle.table.specs.Layout.{user_word}
use Rattle.table.specs.View.{policy_of}
use Rattle.table.proofs.ById.{user_outside, user_above, user_is}
use Rattle.request.specs.declared.Request.{Request}
use Rattle.request.specs.Sets.{kind_sets, is_bad}
use Rattle.request.specs.Asks.{request_of, refusal_of, Accepted}
use Rattle.request.proofs.Arguments.{bad_parts}
use Rattle.request.proofs.Refused.{operation_range, has_operation}

-- the user of a process is below 512
pub user_small : (mem : List ℕ) (i : ℕ) → user_of (policy_of mem) i < 512
user_small mem i = elim (dec_lt i 1) [
  | yes l ↦ omega (arith, user_outside mem i (inl l))
  | no l ↦ elim (dec_lt 255 i) [
    | yes g ↦ omega (arith, user_outside mem i (inr g))
    | no g ↦ elim (dec_lt 511 (user_word mem i)) [
      | yes a ↦ omega (arith, user_above mem i a)
      | no a ↦ omega (arith, user_is mem i (omega arith) (omega arith) (omega arith))
    ]
  ]
]

-- an argument that is not bad is below 512
argument_small : (kinds e : ℕ) → is_bad kinds e ≡ false → e < 512
unfolding is_bad is_element_id
argument_small kinds e h = go (eqb kinds 0) h
  where
    go : (t : Bool) → cond t (not (eqb e 0)) (not (leb 1 e && leb e 511)) ≡ false → e < 512
    go true h = let z : e ≡ 0 = eqb-true e 0 (not-false (eqb e 0) h) in omega arith
    go false h = let l : e ≤ 511 = leb-true e 511 (and_cut (leb 1 e) (leb e 511) (not-false (leb 1 e && leb e 511) h)).1 in omega arith

-- no line holds: nothing is out of range
none_range : (p : Policy) (q : Asks) → None (request_lines true p q) → out_of_range q ≡ false
none_range p q (past a (past b c)) = b

-- no line holds: all that a request which is not refused is known for
pub none_known : (mem : List ℕ) (q : Request) → None (request_lines true (policy_of mem) (request_of q)) → Accepted mem q
unfolding out_of_range is_process_id
none_known mem q n =
    let o : out_of_range (request_of q) ≡ false = none_range (policy_of mem) (request_of q) n in
    let x : Bool = not (is_process_id q.process) in
    let y : Bool = not (is_operation q.operation) in
    let z : Bool = bad_arguments (kinds_of (request_of q)) (arguments_of (request_of q)) in
    let parts = or_fails (x || y) z o in
    let ids = not-false (leb 1 q.process && leb q.process 255) (or_fails x y parts.0).0 in
    let ks : List ℕ = kind_sets q.operation in
    let a : Bool = is_bad (get_or ks 0 0) q.first in
    let b : Bool = is_bad (get_or ks 1 0) q.second in
    let c : Bool = is_bad (get_or ks 2 0) q.third in
    let bads = or_fails a (b || c) (sym (bad_parts q refl).is ∙ parts.1) in
    let more = or_fails b c bads.1 in
    record {
      lines = n;
      process = leb-true q.process 255 (and_cut (leb 1 q.process) (leb q.process 255) ids).1;
      operation = (operation_range q.operation (has_operation q o)).1;
      first = argument_small (get_or ks 0 0) q.first bads.0;
      second = argument_small (get_or ks 1 0) q.second more.0;
      third = argument_small (get_or ks 2 0) q.third more.1;
      user = user_small mem q.process;
    }

-- a request that is not refused has an operation from 1 on
pub operation_some : {mem : List ℕ} {q : Request} → Accepted mem q → 1 ≤ q.operation
operation_some {mem} {q} k = (operation_range q.operation (has_operation q (none_range (policy_of mem) (request_of q) k.lines))).0

-- The number that `refusal` answers.
module _ (mem : List ℕ) (q : Request) {n : ℕ} (e : n ≡ refusal_of mem q) where
  -- it is 0: the request is not refused
  pub accepted_known : n ≤ 0 → Accepted mem q
  unfolding all_of
  accepted_known h =
      let z : n ≡ 0 = omega arith in
      none_known mem q (refusal_none (request_lines true (policy_of mem) (request_of q)) refl (sym e ∙ z))

  module _ (h : 0 < n) (W : ℕ → ℕ → Bool) where
    -- it is not 0: the line with this number is the first that holds
    first_line_lem : First n (request_lines true (policy_of mem) (request_of q))
    first_line_lem = refusal_first (request_lines true (policy_of mem) (request_of q)) (λ z. omega (arith, z)) (sym e)

    -- the decision is refused with it
    pub refused_decision : decision W true (policy_of mem) (request_of q) ≡ refused n
    unfolding decision
    refused_decision = first_refused (verdict W (policy_of mem) (request_of q)) first_line_lem

    -- so is the decision by the index
    pub refused_indexed : indexed_decision W proper (policy_of mem) (request_of q) ≡ refused n
    unfolding indexed_decision
    refused_indexed = first_refused (verdict W (policy_of mem) (request_of q)) first_line_lem

    -- and so is the explanation, whatever rows are lent
    pub refused_explanation : (room : ℕ) → explanation W true room (policy_of mem) (request_of q) ≡ refused n
    unfolding explanation
    refused_explanation room =
        refused_still (verdict W (policy_of mem) (request_of q)) _ _ (request_lines true (policy_of mem) (request_of q)) (first_refused (verdict W (policy_of mem) (request_of q)) first_line_lem)

-- No line of the request holds.
module _ (W : ℕ → ℕ → Bool) (p : Policy) (q : Asks) (n : None (request_lines true p q)) where
  -- the decision is the verdict
  pub accepted_decision : decision W true p q ≡ accepted (verdict W p q)
  unfolding decision
  accepted_decision = none_accepted (verdict W p q) n

  -- so is the decision by the index
  pub accepted_indexed : indexed_decision W proper p q ≡ accepted (verdict W p q)
  unfolding indexed_decision
  accepted_indexed = none_accepted (verdict W p q) n

  -- and the explanation is refused only where the lent rows are too few
  pub accepted_explanation : (room : ℕ) → explanation W true room p q
      ≡ answer (one (10 when ltb room (length (rows W p q)))) (record { verdict = verdict W p q; count = length (rows W p q) })
  unfolding explanation
  accepted_explanation room = accepted_then (verdict W p q) _ _ (request_lines true p q) (none_accepted (verdict W p q) n)
