-- What is known of every result that the contracts of the two decisions allow, in the words of 01.
-- Assumes nothing.
use mathlib.Core.Path.{◌≡◌, sym, ap, subst, ◌∙◌}
use mathlib.Core.Bool.{Bool, true}
use mathlib.Core.List.{List}
use mathlib.Core.Logic.{◌↔◌}
use Prim.Native.Nat.{ℕ}
use lib.ListN.{length, take}
use Rattle.model.specs.Lists.{In}
use Rattle.model.specs.Policy.{Policy}
use Rattle.model.specs.Contain.{Within, contained}
use Rattle.model.specs.Sound.{Sound}
use Rattle.model.specs.Refusal.{Line, First, None, accepted, answer}
use Rattle.model.specs.Request.{Request as Asks, Alternative, arguments_of, kinds_of, alternatives_of, request_lines, indexed_lines, grant, deny, verdict, decision, indexed_decision}
use Rattle.model.specs.Index.{index_of, bit_at}
use Rattle.model.specs.Calls.{lent, decide, decide_indexed}
use Rattle.model.specs.Decided.{ClassOf, Satisfied, Lowest}
use Rattle.model.proofs.Contained.{within_says}
use Rattle.model.proofs.Refusals.{first_refused, none_accepted, refused_first, accepted_none}
use Rattle.model.proofs.Decisions.Decision.{grant_says, grant_when, deny_says, deny_when, unclassed_denied as no_class_denied}
use Rattle.model.proofs.Decisions.Plain.{plain_grant_says, plain_grant_when, plain_deny_says, plain_deny_when}
use Rattle.model.proofs.Decisions.ByIndex.{indexed_as_plain as answers-alike}
use Rattle.std.specs.Prelude.{Result, Ok}
use Rattle.answer.specs.declared.Refusal.{Refusal}
use Rattle.answer.specs.Answers.{IsRefused}
use Rattle.answer.specs.Answers as answers
use Rattle.answer.proofs.Told.{refused_told, told_refused}
use Rattle.table.specs.View.{holds_table, policy_of, memory}
use Rattle.request.specs.declared.Request.{Request}
use Rattle.request.specs.Asks.{request_of}
use Rattle.decide.specs.declared.Decision.{Decision}
use Rattle.decide.specs.declared.Decision.TheVariants.{Grant, Deny}
use Rattle.decide.specs.Answers.{verdict_of, told}
use Rattle.decide.specs.Results.{ByBits}
use Rattle.decide.proofs.Answered.{one_decision}

-- What a result that is told as an answer by lines is, by the verdict.
module _ (W : ℕ → ℕ → Bool) (lines : List Line) (p : Policy) (q : Asks) {r : Result Decision Refusal} (e : told r ≡ answer lines (verdict W p q)) where
  -- a grant with k: no line holds, and the verdict is that grant
  granted : (k : ℕ) → (r ≡ Ok (Grant k)) ↔ (None lines × (verdict W p q ≡ grant k))
  unfolding answers.told verdict_of
  granted k = (
    λ h. let a = accepted_none (verdict W p q) lines (sym e ∙ ap told h) in (a.0, sym a.1),
    λ h. one_decision r (Ok (Grant k)) (e ∙ none_accepted (verdict W p q) h.0 ∙ ap accepted h.1),
  )

  -- a deny: no line holds, and the verdict is deny
  denied : (r ≡ Ok Deny) ↔ (None lines × (verdict W p q ≡ deny))
  unfolding answers.told verdict_of
  denied = (
    λ h. let a = accepted_none (verdict W p q) lines (sym e ∙ ap told h) in (a.0, sym a.1),
    λ h. one_decision r (Ok Deny) (e ∙ none_accepted (verdict W p q) h.0 ∙ ap accepted h.1),
  )

  -- a refusal with n: line n is the first that holds
  refuses : (n : ℕ) → IsRefused r n ↔ First n lines
  unfolding answers.told verdict_of
  refuses n = (
    λ h. refused_first (verdict W p q) lines (sym e ∙ told_refused verdict_of h),
    λ h. refused_told verdict_of r (e ∙ first_refused (verdict W p q) h),
  )

-- what holds exactly if one thing and another do holds exactly if the one does and what says the same as the other
carried : {A B C D : Type 0} → A ↔ (B × C) → (C → D) → (D → C) → A ↔ (B × D)
carried e to back = (λ a. let b = e.0 a in (b.0, to b.1), λ d. e.1 (d.0, back d.1))

-- a call's contract allows one result: two results that are told the same are the same
pub unique : (r s : Result Decision Refusal) → told r ≡ told s → r ≡ s
unique = one_decision

-- The plain decision, on any memory and any request.
module _ (mem : List ℕ) (q : Request) (r : Result Decision Refusal) (e : told r ≡ decide (memory mem) (request_of q)) where
  -- the lines of the call decide, then the verdict
  by_lines : told r ≡ answer (request_lines (holds_table mem) (policy_of mem) (request_of q)) (verdict (contained (policy_of mem)) (policy_of mem) (request_of q))
  unfolding decide decision
  by_lines = e

  -- the result is a grant with k exactly if no line refuses the request, the first of which is that there is no table, and k is the lowest
  -- alternative of which each right of each argument is held and not restricted, over chains of assignments
  pub grant_exact : (k : ℕ) → (r ≡ Ok (Grant k))
      ↔ (None (request_lines (holds_table mem) (policy_of mem) (request_of q)) × Lowest (Within (policy_of mem).assignments) (policy_of mem) (request_of q) k)
  grant_exact k =
      carried (granted (contained (policy_of mem)) _ (policy_of mem) (request_of q) by_lines k)
      (plain_grant_says (policy_of mem) (request_of q)) (plain_grant_when (policy_of mem) (request_of q))

  -- it is a deny exactly if no line refuses the request and there is no such alternative
  pub deny_exact : (r ≡ Ok Deny)
      ↔ (None (request_lines (holds_table mem) (policy_of mem) (request_of q))
      × ((a : Alternative) → In a (alternatives_of (request_of q)) → Satisfied (Within (policy_of mem).assignments) (policy_of mem) (request_of q) a → ⊥))
  deny_exact =
      carried (denied (contained (policy_of mem)) _ (policy_of mem) (request_of q) by_lines)
      (plain_deny_says (policy_of mem) (request_of q)) (plain_deny_when (policy_of mem) (request_of q))

  -- it is a refusal with n exactly if n's line holds and none before it does
  pub refusal_exact : (n : ℕ) → IsRefused r n ↔ First n (request_lines (holds_table mem) (policy_of mem) (request_of q))
  refusal_exact = refuses (contained (policy_of mem)) _ (policy_of mem) (request_of q) by_lines

  -- "A table with an element in no class .. denies that element": a request that no line refuses and that uses an argument in no class is denied
  pub unclassed_denied : None (request_lines (holds_table mem) (policy_of mem) (request_of q)) → {x : ℕ} → In x (take (length (kinds_of (request_of q))) (arguments_of (request_of q)))
      → ((c : ℕ) → ClassOf (Within (policy_of mem).assignments) (policy_of mem) x c → ⊥) → r ≡ Ok Deny
  unclassed_denied n i h =
      (denied (contained (policy_of mem)) _ (policy_of mem) (request_of q) by_lines).1 (
        n,
        no_class_denied (contained (policy_of mem)) (policy_of mem) (request_of q) i
            (λ c k. h c (record { there = k.there; within = within_says (policy_of mem).assignments k.within })),
      )

-- The indexed decision, on any memory, any bytes and any request.
module _ (mem idx : List ℕ) (q : Request) (r : Result Decision Refusal) (e : told r ≡ decide_indexed (memory mem) idx (request_of q)) where
  -- the lines of the call decide, then the verdict
  by_indexed_lines : told r ≡ answer (indexed_lines (lent (memory mem) idx) (policy_of mem) (request_of q)) (verdict (bit_at idx) (policy_of mem) (request_of q))
  unfolding decide_indexed indexed_decision
  by_indexed_lines = e

  -- over any bytes the result is what the rule says with those bits read as containment; another length than 32,768 is refused with 2 where there is
  -- a table
  pub indexed_by_bits : ByBits idx (indexed_lines (lent (memory mem) idx) (policy_of mem) (request_of q)) (policy_of mem) (request_of q) r
  indexed_by_bits = record {
    grants = λ k. carried (granted (bit_at idx) _ (policy_of mem) (request_of q) by_indexed_lines k)
        (grant_says (bit_at idx) (policy_of mem) (request_of q)) (grant_when (bit_at idx) (policy_of mem) (request_of q));
    denies = carried (denied (bit_at idx) _ (policy_of mem) (request_of q) by_indexed_lines)
        (deny_says (bit_at idx) (policy_of mem) (request_of q)) (deny_when (bit_at idx) (policy_of mem) (request_of q));
    refuses = refuses (bit_at idx) _ (policy_of mem) (request_of q) by_indexed_lines;
  }

  -- over any 32,768 bytes the result is what the rule says with those bits read as containment, and the refusals are those of the plain decision
  pub indexed_over_any_bytes : length idx ≡ 32768 → ByBits idx (request_lines (holds_table mem) (policy_of mem) (request_of q)) (policy_of mem) (request_of q) r
  indexed_over_any_bytes l =
      subst (λ n. ByBits idx (indexed_lines (record { holds_table = holds_table mem; index = n }) (policy_of mem) (request_of q)) (policy_of mem) (request_of q) r) l indexed_by_bits

-- on a table whose policy is sound, with the policy's index, the indexed decision has the plain decision's result, for every request
pub indexed_as_plain : (mem idx : List ℕ) (q : Request) (r s : Result Decision Refusal) → holds_table mem ≡ true → Sound (policy_of mem) → idx ≡ index_of (policy_of mem)
    → told r ≡ decide (memory mem) (request_of q) → told s ≡ decide_indexed (memory mem) idx (request_of q) → r ≡ s
indexed_as_plain mem idx q r s t sound i e f =
    let alike : decide_indexed (memory mem) idx (request_of q) ≡ decide (memory mem) (request_of q) = rw (t, i) (answers-alike (policy_of mem) sound (request_of q)) in
    one_decision r s (e ∙ sym alike ∙ sym f)
