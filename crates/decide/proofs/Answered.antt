-- What the two decisions answer: each of their returns, and that no two answers mean the same.
-- Assumes nothing.
use mathlib.Core.Path.{◌≡◌, refl, sym, ap, ◌∙◌}
use mathlib.Core.Bool.{Bool, true, false, not}
use mathlib.Core.List.{List}
use Prim.Native.Nat.{ℕ}
use native.Mathlib.Omega.{arith}
use borrow.Author.Tests.{not-true, not-false, ne_eqb}
use lib.ListN.{length}
use Rattle.model.specs.Refusal.{accepted, answer}
use Rattle.model.specs.Contain.{contained}
use Rattle.model.specs.Index.{bit_at}
use Rattle.model.specs.Request.{verdict, decision, indexed_decision}
use Rattle.model.specs.Calls.{decide, decide_indexed}
use Rattle.std.specs.Prelude.{Result, Ok, Err}
use Rattle.answer.specs.declared.Refusal.{Refusal}
use Rattle.answer.specs.declared.Refusal.TheVariants.{NoTable, OutOfRange}
use Rattle.answer.specs.Answers as answers
use Rattle.answer.specs.Answers.{number_of}
use Rattle.answer.proofs.Told.{number_low, one_told}
use Rattle.table.specs.View.{holds_table, policy_of, memory}
use Rattle.table.proofs.Outcomes.{never}
use Rattle.request.specs.declared.Request.{Request}
use Rattle.request.specs.Asks.{request_of, refusal_of}
use Rattle.request.proofs.Accepts.{accepted_known, refused_decision, refused_indexed, accepted_decision, accepted_indexed}
use Rattle.held.specs.Lacking.{sight}
use Rattle.decide.specs.declared.Decision.{Decision}
use Rattle.decide.specs.declared.Decision.TheVariants.{Grant, Deny}
use Rattle.decide.specs.Answers.{verdict_of, told}

-- by the marks of climbs the verdict is that of chains of assignments
pub told_by_climb : (mem rows : List ℕ) (q : Request) (d : Decision)
    → verdict_of d ≡ verdict (sight mem rows false) (policy_of mem) (request_of q) → verdict_of d ≡ verdict (contained (policy_of mem)) (policy_of mem) (request_of q)
unfolding sight
told_by_climb mem rows q d e = e

-- by the bits of an index it is that of those bits read as containment
pub told_by_index : (mem idx : List ℕ) (q : Request) (d : Decision)
    → verdict_of d ≡ verdict (sight mem idx true) (policy_of mem) (request_of q) → verdict_of d ≡ verdict (bit_at idx) (policy_of mem) (request_of q)
unfolding sight
told_by_index mem idx q d e = e

-- The plain decision: what was told of the table and of the request's refusal, in this order.
module _ (mem : List ℕ) (q : Request) {r : Bool} (e : r ≡ holds_table mem) where
  -- there is no table
  pub told_no_table : not r ≡ true → told (Err NoTable) ≡ decide (memory mem) (request_of q)
  unfolding answers.told decide decision answer
  told_no_table h = rw (sym e ∙ not-true r h)

  module _ (h : not r ≡ false) where
    -- the request is refused
    pub told_refused : (s : Refusal) → number_of s ≡ refusal_of mem q → told (Err s) ≡ decide (memory mem) (request_of q)
    unfolding answers.told decide
    told_refused s f = rw (sym e ∙ not-false r h) (sym (refused_decision mem q f (number_low s) (contained (policy_of mem))))

    -- it is not
    pub told_verdict : 0 ≡ refusal_of mem q → (d : Decision) → verdict_of d ≡ verdict (contained (policy_of mem)) (policy_of mem) (request_of q)
        → told (Ok d) ≡ decide (memory mem) (request_of q)
    unfolding answers.told decide
    told_verdict f d k =
        rw (sym e ∙ not-false r h)
        (ap accepted k ∙ sym (accepted_decision (contained (policy_of mem)) (policy_of mem) (request_of q) (accepted_known mem q f (omega arith)).lines))

-- The indexed decision: of the table, of the index's length and of the request's refusal.
module _ (mem idx : List ℕ) (q : Request) {r : Bool} (e : r ≡ holds_table mem) where
  -- there is no table
  pub indexed_no_table : not r ≡ true → told (Err NoTable) ≡ decide_indexed (memory mem) idx (request_of q)
  unfolding answers.told decide_indexed indexed_decision answer
  indexed_no_table h = rw (sym e ∙ not-true r h)

  module _ (h : not r ≡ false) where
    -- the index has another length
    pub indexed_bad_index : (length idx ≡ 32768 → ⊥) → told (Err OutOfRange) ≡ decide_indexed (memory mem) idx (request_of q)
    unfolding answers.told decide_indexed indexed_decision answer
    indexed_bad_index d = rw (sym e ∙ not-false r h, ne_eqb (length idx) 32768 d)

    module _ (d : length idx ≡ 32768) where
      -- the request is refused
      pub indexed_refused : (s : Refusal) → number_of s ≡ refusal_of mem q → told (Err s) ≡ decide_indexed (memory mem) idx (request_of q)
      unfolding answers.told decide_indexed
      indexed_refused s f = rw (sym e ∙ not-false r h, d) (sym (refused_indexed mem q f (number_low s) (bit_at idx)))

      -- it is not
      pub indexed_verdict : 0 ≡ refusal_of mem q → (c : Decision) → verdict_of c ≡ verdict (bit_at idx) (policy_of mem) (request_of q)
          → told (Ok c) ≡ decide_indexed (memory mem) idx (request_of q)
      unfolding answers.told decide_indexed
      indexed_verdict f c k =
          rw (sym e ∙ not-false r h, d)
          (ap accepted k ∙ sym (accepted_indexed (bit_at idx) (policy_of mem) (request_of q) (accepted_known mem q f (omega arith)).lines))

-- no two verdicts are of one decision
one_verdict : (d e : Decision) → verdict_of d ≡ verdict_of e → d ≡ e
unfolding verdict_of
one_verdict (Grant k) (Grant j) e = let z : k ≡ j = cc in ap Grant z
one_verdict (Grant k) Deny e = never (cc)
one_verdict Deny (Grant j) e = never (cc)
one_verdict Deny Deny e = refl

-- no two answers are told the same: the contract allows one result
pub one_decision : (r s : Result Decision Refusal) → told r ≡ told s → r ≡ s
one_decision r s e = one_told verdict_of one_verdict r s e
