-- An alternative is satisfied, and the verdict by the first and the second: each return.
-- Assumes nothing.
use mathlib.Core.Path.{◌≡◌, sym, ap, ap₂, ◌∙◌}
use mathlib.Core.Bool.{Bool, true, false, not, and_assoc}
use mathlib.Core.List.{List, []}
use Prim.Native.Nat.{ℕ}
use native.Mathlib.Omega.{arith}
use borrow.Author.Tests.{not-true, not-false}
use lib.ListN.{get_or}
use Rattle.model.specs.Lists.{all_of}
use Rattle.model.specs.Policy.{Policy, user_of}
use Rattle.model.specs.Request.{alternatives_of, permitted, satisfied, verdict}
use Rattle.request.specs.declared.Request.{Request}
use Rattle.request.specs.Sets.{right_sets, capabilities}
use Rattle.request.specs.Asks.{request_of, Accepted}
use Rattle.request.proofs.Operations.{rights_back, second_set}
use Rattle.request.proofs.Accepts.{operation_some}
use Rattle.request.proofs.Alternatives.{first_sets, second_sets, set_at, asked_at, asked_parts, verdict_first, verdict_none_one, verdict_second, verdict_none_two}
use Rattle.rule.specs.declared.Asking.{Asking}
use Rattle.held.specs.Lacking.{permits}
use Rattle.decide.specs.declared.Decision.TheVariants.{Grant, Deny}
use Rattle.decide.specs.Answers.{verdict_of}
use Rattle.decide.specs.Asks.{asking_of, permits_over, permits_all, satisfies}

-- The alternative, argument by argument.
module _ (W : ℕ → ℕ → Bool) (p : Policy) (q : Request) (user : ℕ) (sets : List ℕ) (indexed : Bool) where
  -- which row is asked does not matter to what is asked
  asked_alike : {a : Asking} (e k rights : ℕ) {s : Bool} → a ≡ asking_of q user indexed e k 0 → s ≡ permits_all W p a rights
      → s ≡ permits_all W p (asking_of q user false e k 0) rights
  unfolding permits_all permits_over
  asked_alike x k rights i e = e ∙ ap (λ (b : Asking). permits_all W p b rights) i

  module _ {a : Asking} (i : a ≡ asking_of q user indexed q.first 1 0) {r : Bool} (e : r ≡ permits_all W p a (get_or sets 0 0)) where
    -- the first argument fails
    pub first_denied : not r ≡ true → false ≡ satisfies W p q user sets
    unfolding satisfies
    first_denied h = rw (sym (asked_alike q.first 1 (get_or sets 0 0) i e) ∙ not-true r h)

    module _ (h : not r ≡ false) {b : Asking} (j : b ≡ asking_of q user indexed q.second 2 0) {s : Bool} (f : s ≡ permits_all W p b (get_or sets 1 0)) where
      -- the second fails
      pub second_denied : not s ≡ true → false ≡ satisfies W p q user sets
      unfolding satisfies
      second_denied g = rw (sym (asked_alike q.first 1 (get_or sets 0 0) i e) ∙ not-false r h, sym (asked_alike q.second 2 (get_or sets 1 0) j f) ∙ not-true s g)

      -- the third decides
      pub third_decides : not s ≡ false → {c : Asking} → c ≡ asking_of q user indexed q.third 3 0 → {t : Bool} → t ≡ permits_all W p c (get_or sets 2 0)
          → t ≡ satisfies W p q user sets
      unfolding satisfies
      third_decides g k d =
          rw (sym (asked_alike q.first 1 (get_or sets 0 0) i e) ∙ not-false r h, sym (asked_alike q.second 2 (get_or sets 1 0) j f) ∙ not-false s g) (asked_alike q.third 3 (get_or sets 2 0) k d)

-- The sets of rights of an alternative of the operation table ask what the alternative asks.
module _ (W : ℕ → ℕ → Bool) (p : Policy) (q : Request) where
  -- the alternative at j is satisfied exactly if its sets are
  pub satisfies_says : (j : ℕ) → satisfies W p q (user_of p q.process) (right_sets (get_or (alternatives_of (request_of q)) j []))
      ≡ satisfied W p (request_of q) (get_or (alternatives_of (request_of q)) j [])
  unfolding satisfies satisfied permits_all permits_over permitted permits right_sets
  satisfies_says j =
      let test : (e k : ℕ) → Bool = λ e k. all_of (λ r. permitted W p (request_of q) (asked_at 1 e r)) (get_or (get_or (alternatives_of (request_of q)) j []) k []) in
      rw (rights_back q.operation j 0, rights_back q.operation j 1, rights_back q.operation j 2)
      (and_assoc (test q.first 0) (test q.second 1) (test q.third 2)
      ∙ sym (asked_parts (permitted W p (request_of q)) (get_or (alternatives_of (request_of q)) j []) q.first q.second q.third))

-- The verdict: each return.
module _ (W : ℕ → ℕ → Bool) {mem : List ℕ} (p : Policy) {q : Request} {user : ℕ} {alternatives : List (List ℕ)} (k : Accepted mem q) (u : user ≡ user_of p q.process)
    (c : alternatives ≡ capabilities q.operation) {r : Bool} (e : r ≡ satisfies W p q user (get_or alternatives 0 [])) where
  -- what was told of the first alternative's sets
  first_satisfied : r ≡ satisfied W p (request_of q) (get_or (alternatives_of (request_of q)) 0 [])
  first_satisfied = e ∙ ap₂ (λ v l. satisfies W p q v (get_or l 0 [])) u c ∙ ap (satisfies W p q (user_of p q.process)) (first_sets q.operation) ∙ satisfies_says W p q 0

  -- the first alternative is satisfied
  pub told_first : r ≡ true → verdict_of (Grant 1) ≡ verdict W p (request_of q)
  unfolding verdict_of
  told_first h = sym (verdict_first W p (request_of q) (operation_some k) k.operation (sym first_satisfied ∙ h))

  module _ (h : r ≡ false) where
    -- the first alternative is not satisfied
    first_unsatisfied : satisfied W p (request_of q) (get_or (alternatives_of (request_of q)) 0 []) ≡ false
    first_unsatisfied = sym first_satisfied ∙ h

    -- what the second alternative asks of the first argument, as the code reads it
    second_read : get_or (get_or alternatives 1 []) 0 0 ≡ second_set q.operation
    second_read =
        ap (λ l. get_or (get_or l 1 []) 0 0) c
        ∙ ap (λ l. get_or l 0 0) (second_sets q.operation)
        ∙ set_at (get_or (alternatives_of (request_of q)) 1 []) 0 (omega arith)

    -- there is no second
    pub told_only_first : get_or (get_or alternatives 1 []) 0 0 ≡ 0 → verdict_of Deny ≡ verdict W p (request_of q)
    unfolding verdict_of
    told_only_first z = sym (verdict_none_one W p (request_of q) first_unsatisfied (sym second_read ∙ z))

    module _ (d : get_or (get_or alternatives 1 []) 0 0 ≡ 0 → ⊥) {s : Bool} (f : s ≡ satisfies W p q user (get_or alternatives 1 [])) where
      -- what was told of the second alternative's sets
      second_satisfied : s ≡ satisfied W p (request_of q) (get_or (alternatives_of (request_of q)) 1 [])
      second_satisfied =
          f ∙ ap₂ (λ v l. satisfies W p q v (get_or l 1 [])) u c ∙ ap (satisfies W p q (user_of p q.process)) (second_sets q.operation) ∙ satisfies_says W p q 1

      -- the second is satisfied
      pub told_second : s ≡ true → verdict_of (Grant 2) ≡ verdict W p (request_of q)
      unfolding verdict_of
      told_second i = sym (verdict_second W p (request_of q) first_unsatisfied (λ z. d (second_read ∙ z)) (sym second_satisfied ∙ i))

      -- it is not either
      pub told_neither : s ≡ false → verdict_of Deny ≡ verdict W p (request_of q)
      unfolding verdict_of
      told_neither i = sym (verdict_none_two W p (request_of q) first_unsatisfied (λ z. d (second_read ∙ z)) (sym second_satisfied ∙ i))
