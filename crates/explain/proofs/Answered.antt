-- What the explanation answers and leaves, by the table and by the request's refusal; and that no two answers mean the same.
-- Assumes nothing.
use mathlib.Core.Path.{◌≡◌, sym, ap, ◌∙◌}
use mathlib.Core.Bool.{Bool, true, false, not}
use mathlib.Core.List.{List, []}
use Prim.Native.Nat.{ℕ, ◌-◌, ◌≤◌}
use native.Mathlib.Omega.{arith}
use borrow.Author.Tests.{not-true, not-false}
use lib.ListN.{length, get_or}
use Rattle.model.specs.Contain.{contained}
use Rattle.model.specs.Refusal.{answer}
use Rattle.model.specs.Request.{grant, deny, verdict}
use Rattle.model.specs.Explain.{Explained, explanation}
use Rattle.model.specs.Calls.{kept}
use Rattle.std.specs.Prelude.{Result, Err}
use Rattle.answer.specs.declared.Refusal.{Refusal}
use Rattle.answer.specs.declared.Refusal.TheVariants.{NoTable}
use Rattle.answer.specs.Answers as answers
use Rattle.answer.specs.Answers.{number_of}
use Rattle.answer.proofs.Told.{number_low, one_told}
use Rattle.table.specs.View.{holds_table, policy_of, memory}
use Rattle.table.proofs.Outcomes.{never}
use Rattle.request.specs.declared.Request.{Request}
use Rattle.request.specs.Sets.{capabilities}
use Rattle.request.specs.Asks.{request_of, refusal_of}
use Rattle.request.proofs.Accepts.{accepted_known, refused_explanation, accepted_explanation}
use Rattle.held.specs.Lacking.{sight}
use Rattle.decide.specs.declared.Decision.{Decision}
use Rattle.decide.specs.declared.Decision.TheVariants.{Grant as Grants, Deny as Denies}
use Rattle.decide.specs.Answers.{verdict_of}
use Rattle.explain.specs.declared.Explanation.{Explanation}
use Rattle.explain.specs.declared.Explanation.TheVariants.{Grant, Deny}
use Rattle.explain.specs.Answers.{explained_by, told, Left, left, explained, explaining}
use Rattle.explain.proofs.Granted.{grant_small}

-- The alternatives as the code reads them.
module _ (n : ℕ) {alternatives : List (List ℕ)} (c : alternatives ≡ capabilities n) where
  -- the sets of alternative 1
  pub first_read : (1 ≤ 1) × (get_or alternatives 0 [] ≡ get_or (capabilities n) (1 - 1) [])
  first_read = (omega arith, ap (λ (l : List (List ℕ)). get_or l 0 []) c)

  -- those of alternative 2
  pub second_read : (1 ≤ 2) × (get_or alternatives 1 [] ≡ get_or (capabilities n) (2 - 1) [])
  second_read = (omega arith, ap (λ (l : List (List ℕ)). get_or l 1 []) c)

-- What was decided, by the marks of climbs.
module _ (mem rows : List ℕ) (q : Request) {d : Decision} (e : verdict_of d ≡ verdict (sight mem rows false) (policy_of mem) (request_of q)) where
  -- a grant with k is the verdict's
  pub decided_grant : {k : ℕ} → d ≡ Grants k → verdict (contained (policy_of mem)) (policy_of mem) (request_of q) ≡ grant k
  unfolding sight verdict_of
  decided_grant h = sym e ∙ ap verdict_of h

  -- with 1
  pub decided_first : {k : ℕ} → d ≡ Grants k → k ≡ 1 → verdict (contained (policy_of mem)) (policy_of mem) (request_of q) ≡ grant 1
  decided_first h z = decided_grant h ∙ ap grant z

  -- else with 2
  pub decided_second : {k : ℕ} → d ≡ Grants k → (k ≡ 1 → ⊥) → verdict (contained (policy_of mem)) (policy_of mem) (request_of q) ≡ grant 2
  decided_second {k} h z =
      let l = grant_small (contained (policy_of mem)) (policy_of mem) (request_of q) (decided_grant h) in
      let y : k ≡ 2 = omega (arith, z, l.0, l.1) in
      decided_grant h ∙ ap grant y

  -- so is a deny
  pub decided_deny : d ≡ Denies → verdict (contained (policy_of mem)) (policy_of mem) (request_of q) ≡ deny
  unfolding sight verdict_of
  decided_deny h = sym e ∙ ap verdict_of h

-- The table, then the request's refusal.
module _ (mem : List ℕ) (q : Request) (out : List (List ℕ)) {r : Bool} (e : r ≡ holds_table mem) where
  -- there is no table
  pub explained_no_table : not r ≡ true → left (Err NoTable) out ≡ explaining (memory mem) (request_of q) out
  unfolding answers.told explaining explanation answer kept
  explained_no_table h = rw (sym e ∙ not-true r h)

  module _ (h : not r ≡ false) where
    -- the request is refused
    pub explained_refusal : (s : Refusal) → number_of s ≡ refusal_of mem q → left (Err s) out ≡ explaining (memory mem) (request_of q) out
    unfolding answers.told explaining kept
    explained_refusal s f = rw (sym e ∙ not-false r h, refused_explanation mem q f (number_low s) (contained (policy_of mem)) (length out))

    -- it is not
    pub explained_accepted : 0 ≡ refusal_of mem q → (d : Result Explanation Refusal) {out' : List (List ℕ)} → left d out' ≡ explained (policy_of mem) (request_of q) out
        → left d out' ≡ explaining (memory mem) (request_of q) out
    unfolding explaining explained
    explained_accepted f d k =
        rw (sym e ∙ not-false r h, accepted_explanation (contained (policy_of mem)) (policy_of mem) (request_of q) (accepted_known mem q f (omega arith)).lines (length out)) k

-- no two explanations say the same
one_explained : (d e : Explanation) → explained_by d ≡ explained_by e → d ≡ e
unfolding explained_by
one_explained (Grant k m) (Grant j n) e =
    let v : grant k ≡ grant j = ap (λ (b : Explained). b.verdict) e in
    let y : k ≡ j = cc in
    let z : m ≡ n = ap (λ (b : Explained). b.count) e in
    rw (y, z)
one_explained (Grant k m) (Deny n) e = let v : grant k ≡ deny = ap (λ (b : Explained). b.verdict) e in never (cc)
one_explained (Deny m) (Grant j n) e = let v : deny ≡ grant j = ap (λ (b : Explained). b.verdict) e in never (cc)
one_explained (Deny m) (Deny n) e = ap Deny (ap (λ (b : Explained). b.count) e)

-- no two answers are told the same
pub one_explanation : (r s : Result Explanation Refusal) → told r ≡ told s → r ≡ s
one_explanation r s e = one_told explained_by one_explained r s e

-- one answer, and the same rows
pub one_left : {r s : Result Explanation Refusal} {l m : List (List ℕ)} → left r l ≡ left s m → (r ≡ s) × (l ≡ m)
one_left {r} {s} e = (one_explanation r s (ap (λ (b : Left). b.answers) e), ap (λ (b : Left). b.rows) e)
