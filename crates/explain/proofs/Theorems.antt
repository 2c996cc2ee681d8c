-- What is known of every result that the explanation's contract allows, in the words of 01.
-- Assumes nothing.
use mathlib.Core.Path.{◌≡◌, refl, sym, ap, ◌∙◌}
use mathlib.Core.Bool.{Bool, true}
use mathlib.Core.List.{List, [], ◌∷◌, ◌++◌, map}
use Prim.Native.Nat.{ℕ, ◌≤◌, ◌<◌}
use native.Mathlib.Omega.{arith}
use borrow.Author.Tests.{ltb-true, not-false}
use lib.ListN.{length, drop}
use lib.Seq.{take-append_seam, drop-append_seam}
use Rattle.model.specs.Policy.{Policy}
use Rattle.model.specs.Contain.{contained}
use Rattle.model.specs.Refusal.{First, now, next, None, end, past, refused, accepted}
use Rattle.model.specs.Request.{Request as Asks, alternatives_of, request_lines, grant, deny, Verdict, verdict, decision}
use Rattle.model.specs.Explain.{Row, deny_row, Explained, explain_lines, rows, explanation}
use Rattle.model.specs.Calls.{decide, kept, over}
use Rattle.model.specs.Desk.{deny_line, line, D}
use Rattle.model.proofs.Refusals.{none_accepted, refused_first, accepted_none}
use Rattle.model.proofs.Decisions.Decision.{grant_says}
use Rattle.model.proofs.Decisions.Answers.{explained_refused, explained_as_decided, explained_too_few}
use Rattle.model.proofs.Decisions.Rows.{denied_rows, granted_rise, granted_says, granted_have, granted_named}
use Rattle.model.proofs.Decisions.Denied.{deny_rows_count, deny_row_first}
use Rattle.model.proofs.Decisions.Cause.{cause_says}
use Rattle.std.specs.Prelude.{Result, Ok, Err}
use Rattle.answer.specs.declared.Refusal.{Refusal}
use Rattle.answer.specs.declared.Refusal.TheVariants.{NoRoom}
use Rattle.answer.specs.Answers as answers
use Rattle.table.specs.View.{holds_table, policy_of, memory}
use Rattle.table.proofs.Outcomes.{never}
use Rattle.table.proofs.ById.{elements_rise}
use Rattle.request.specs.declared.Request.{Request}
use Rattle.request.specs.Asks.{request_of, Accepted}
use Rattle.request.proofs.Operations.{some_alternative}
use Rattle.request.proofs.Accepts.{none_known, operation_some}
use Rattle.decide.specs.declared.Decision.{Decision}
use Rattle.decide.specs.Answers.{verdict_of, told as tells}
use Rattle.explain.specs.declared.Explanation.{Explanation}
use Rattle.explain.specs.declared.Explanation.TheVariants.{Grant, Deny}
use Rattle.explain.specs.Results.{first_why, AsDecided, Written, RowsExact, GrantRows, DenyRows}
use Rattle.explain.specs.Answers.{explained_by, told, numbers_of, Left, left, numbers, explaining}
use Rattle.explain.proofs.Filled.{numbers_length}
use Rattle.explain.proofs.Answered.{one_explanation, one_left}

-- the explanation's contract allows one result: two results that are told the same and leave the same rows are the same
pub unique : {r s : Result Explanation Refusal} {l m : List (List ℕ)} → left r l ≡ left s m → (r ≡ s) × (l ≡ m)
unique = one_left

-- 10 is the number of an explanation's last line alone
last_line : (W : ℕ → ℕ → Bool) (holds : Bool) (room : ℕ) (p : Policy) (q : Asks) → First 10 (explain_lines W holds room p q)
    → None (request_lines holds p q) × (room < length (rows W p q))
last_line W holds room p q (now e h) = absurd (omega arith)
last_line W holds room p q (next a (now e h)) = absurd (omega arith)
last_line W holds room p q (next a (next b (now e h))) = absurd (omega arith)
last_line W holds room p q (next a (next b (next c (now e h)))) = absurd (omega arith)
last_line W holds room p q (next a (next b (next c (next d (now e h))))) =
    (past a (past b (past c (past d end))), ltb-true room (length (rows W p q)) h)
last_line W holds room p q (next a (next b (next c (next d (next _ never))))) = elim never [ ]

-- where none of an explanation's lines holds, none of the request's does
request_none : (W : ℕ → ℕ → Bool) (holds : Bool) (room : ℕ) (p : Policy) (q : Asks) → None (explain_lines W holds room p q) → (holds ≡ true) × None (request_lines true p q)
request_none W holds room p q (past a (past b (past c (past d (past e end))))) = (not-false holds a, past refl (past b (past c (past d end))))

-- a decision that is no refusal is told as a verdict
decides : (d : Result Decision Refusal) → ((x : Refusal) → d ≡ Err x → ⊥) → (v : Verdict) × (tells d ≡ accepted v)
unfolding answers.told
decides (Ok v) h = (verdict_of v, refl)
decides (Err x) h = absurd (h x refl)

-- where the rows stand first they are those of the first row
printed : (l : List Row) (behind : List (List ℕ)) → 1 ≤ length l → line D (first_why (map numbers_of l ++ behind)) ≡ deny_line l
unfolding deny_line
printed [] behind h = absurd (omega arith)
printed (row ∷ l) behind h = refl

-- Any result that the contract allows, on any memory, any request and any lent rows.
module _ (mem : List ℕ) (q : Request) (out out' : List (List ℕ)) (r : Result Explanation Refusal) (e : left r out' ≡ explaining (memory mem) (request_of q) out) where
  -- what it answers
  answered : told r ≡ explanation (contained (policy_of mem)) (holds_table mem) (length out) (policy_of mem) (request_of q)
  unfolding explaining
  answered = ap (λ (b : Left). b.answers) e

  -- and what it leaves
  leaves : out' ≡ kept (told r) (over (numbers (policy_of mem) (request_of q)) out) out
  unfolding explaining
  leaves = ap (λ (b : Left). b.rows) e ∙ ap (λ t. kept t (over (numbers (policy_of mem) (request_of q)) out) out) (sym answered)

  -- how many rows the request has
  abbrev needed : ℕ
  needed = length (rows (contained (policy_of mem)) (policy_of mem) (request_of q))

  -- an accepted one: no line holds, the verdict and the number of rows are those of the request
  accepted_is : {a : Explained} → told r ≡ accepted a
      → None (explain_lines (contained (policy_of mem)) (holds_table mem) (length out) (policy_of mem) (request_of q))
      × (a ≡ record { verdict = verdict (contained (policy_of mem)) (policy_of mem) (request_of q); count = needed })
  unfolding explanation
  accepted_is t = accepted_none _ (explain_lines (contained (policy_of mem)) (holds_table mem) (length out) (policy_of mem) (request_of q)) (sym answered ∙ t)

  -- its rows are written
  accepted_written : {v : Verdict} {n : ℕ} → told r ≡ accepted (record { verdict = v; count = n }) → Written (numbers (policy_of mem) (request_of q)) out out' n
  unfolding kept
  accepted_written {v} {n} t =
      let c : n ≡ length (numbers (policy_of mem) (request_of q)) = ap (λ (a : Explained). a.count) (accepted_is t).1 ∙ sym (numbers_length (policy_of mem) (request_of q)) in
      let o : out' ≡ over (numbers (policy_of mem) (request_of q)) out = rw t at leaves in
      record {
        count = c;
        first = rw (c, o) (take-append_seam (numbers (policy_of mem) (request_of q)) (drop (length (numbers (policy_of mem) (request_of q))) out));
        others = rw (c, o) (drop-append_seam (numbers (policy_of mem) (request_of q)) (drop (length (numbers (policy_of mem) (request_of q))) out));
      }

  -- where the explanation is accepted the first rows are the rows of the request and the others are as they were; where it is refused all are
  pub rows_exact : RowsExact r (numbers (policy_of mem) (request_of q)) out out'
  unfolding answers.told explained_by kept
  rows_exact = record {
    granted = λ k n h. accepted_written (ap told h);
    denied = λ n h. accepted_written (ap told h);
    refused = λ x h. rw (ap told h) at leaves;
  }

  -- a grant's verdict
  grant_verdict : {k n : ℕ} → r ≡ Ok (Grant k n) → verdict (contained (policy_of mem)) (policy_of mem) (request_of q) ≡ grant k
  unfolding answers.told explained_by
  grant_verdict h = sym (ap (λ (a : Explained). a.verdict) (accepted_is (ap told h)).1)

  -- a deny's
  deny_verdict : {n : ℕ} → r ≡ Ok (Deny n) → verdict (contained (policy_of mem)) (policy_of mem) (request_of q) ≡ deny
  unfolding answers.told explained_by
  deny_verdict h = sym (ap (λ (a : Explained). a.verdict) (accepted_is (ap told h)).1)

  -- the rows of a grant are those that 01 says
  pub grant_rows_exact : {k n : ℕ} → r ≡ Ok (Grant k n) → GrantRows (policy_of mem) (request_of q) k
  grant_rows_exact h =
      let g = grant_says (contained (policy_of mem)) (policy_of mem) (request_of q) (grant_verdict h) in
      record {
        lowest = g;
        says = λ row i. granted_says (contained (policy_of mem)) (policy_of mem) (request_of q) g i;
        have = λ row i. granted_have (contained (policy_of mem)) (policy_of mem) (request_of q) g i;
        named = λ row i. granted_named (contained (policy_of mem)) (policy_of mem) (request_of q) g i;
        rise = granted_rise (contained (policy_of mem)) (policy_of mem) (request_of q) g (elements_rise mem);
      }

  -- the rows of a deny are those that 01 says
  pub deny_rows_exact : {n : ℕ} → r ≡ Ok (Deny n) → DenyRows (policy_of mem) (request_of q)
  unfolding deny_row
  deny_rows_exact h =
      let v = deny_verdict h in
      record {
        count = rw (denied_rows (contained (policy_of mem)) (policy_of mem) (request_of q) v) (deny_rows_count (contained (policy_of mem)) (policy_of mem) (request_of q) v);
        each = λ i l d.
            let it = deny_row_first (contained (policy_of mem)) (policy_of mem) (request_of q) v i l d in
            rw (denied_rows (contained (policy_of mem)) (policy_of mem) (request_of q) v)
            (record { its = it; why = rw it.is (cause_says (contained (policy_of mem)) (policy_of mem) (request_of q) it.first.it it.first.fails) });
      }

  -- on a deny the first row's argument, right, cause and number are those of the line that the desk program prints
  pub first_deny_row : {n : ℕ} → r ≡ Ok (Deny n)
      → line D (first_why out') ≡ deny_line (rows (contained (policy_of mem)) (policy_of mem) (request_of q))
  unfolding answers.told explained_by kept numbers
  first_deny_row h =
      let a = accepted_is (ap told h) in
      let k : Accepted mem q = none_known mem q (request_none (contained (policy_of mem)) (holds_table mem) (length out) (policy_of mem) (request_of q) a.0).1 in
      let s : 1 ≤ length (alternatives_of (request_of q)) = some_alternative q.operation (operation_some k) k.operation in
      let c : needed ≡ length (alternatives_of (request_of q)) = (deny_rows_exact h).count in
      let o : out' ≡ over (numbers (policy_of mem) (request_of q)) out = rw (ap told h) at leaves in
      rw o (printed (rows (contained (policy_of mem)) (policy_of mem) (request_of q)) (drop (length (numbers (policy_of mem) (request_of q))) out) (omega (arith, s, c)))

  -- a result that is told as the explanation is, is the result
  it_is : (s : Result Explanation Refusal) → explanation (contained (policy_of mem)) (holds_table mem) (length out) (policy_of mem) (request_of q) ≡ told s → r ≡ s
  it_is s f = one_explanation r s (answered ∙ f)

  -- where it is 10 the line of 10 is the first that holds
  ten : r ≡ Err NoRoom → First 10 (explain_lines (contained (policy_of mem)) (holds_table mem) (length out) (policy_of mem) (request_of q))
  unfolding answers.told explanation
  ten h = refused_first _ (explain_lines (contained (policy_of mem)) (holds_table mem) (length out) (policy_of mem) (request_of q)) (sym answered ∙ ap told h)

  -- where none of the request's lines holds, the decision is the verdict
  decided : None (request_lines (holds_table mem) (policy_of mem) (request_of q))
      → decide (memory mem) (request_of q) ≡ accepted (verdict (contained (policy_of mem)) (policy_of mem) (request_of q))
  unfolding decide decision
  decided n = none_accepted (verdict (contained (policy_of mem)) (policy_of mem) (request_of q)) n

  -- the explanation answers as the decision does, but for 10, which it answers exactly where the decision is no refusal and the lent rows are too few
  pub as_decided : (d : Result Decision Refusal) → tells d ≡ decide (memory mem) (request_of q) → AsDecided d (length out) needed r
  unfolding answers.told explained_by verdict_of decide
  as_decided d f = record {
    refuses = λ n h. it_is (Err n) (explained_refused (contained (policy_of mem)) (holds_table mem) (length out) (policy_of mem) (request_of q) (sym f ∙ ap tells h));
    grants = λ k h l. it_is (Ok (Grant k needed)) (explained_as_decided (contained (policy_of mem)) (holds_table mem) (length out) (policy_of mem) (request_of q) (sym f ∙ ap tells h) l);
    denies = λ h l. it_is (Ok (Deny needed)) (explained_as_decided (contained (policy_of mem)) (holds_table mem) (length out) (policy_of mem) (request_of q) (sym f ∙ ap tells h) l);
    too_few = (
      λ h.
          let l = last_line (contained (policy_of mem)) (holds_table mem) (length out) (policy_of mem) (request_of q) (ten h) in
          (λ n k. let z : refused (answers.number_of n) ≡ accepted (verdict (contained (policy_of mem)) (policy_of mem) (request_of q)) = ap tells (sym k) ∙ f ∙ decided l.0 in never (cc), l.1),
      λ h.
          let v = decides d h.0 in
          it_is (Err NoRoom) (explained_too_few (contained (policy_of mem)) (holds_table mem) (length out) (policy_of mem) (request_of q) (sym f ∙ v.1) h.1),
    );
  }
