-- 01, "The small house, judged by hand": the house, and the cases K1 to K12 as one table.
-- Assumes nothing.
use Rattle.std.specs.Prelude.{Bool, true, cond, List, [], ◌∷◌, ℕ, eqb}
use Rattle.model.specs.Lists.{one}
use Rattle.model.specs.Policy.{Element, Assignment, Process, Policy, user, user_attribute, object, object_attribute, class, by_user, disjunctive}
use Rattle.model.specs.Refusal.{Answer, refused, accepted}
use Rattle.model.specs.Request.{Request, Verdict, grant, deny, decision}
use Rattle.model.specs.Explain.{Row, rows}
use Rattle.model.specs.Command.{Command, assign, deassign, delete_element, create_prohibition, command_refusal}
use Rattle.model.specs.History.{run}

-- "1 is a class", and so on
infix 70 ◌is◌
abbrev pub ◌is◌ : ℕ → ℕ → Element
x is k = record { id = x; kind = k }

-- "3 (in 2)": the element 3 is assigned to 2
infix 70 ◌into◌
abbrev pub ◌into◌ : ℕ → ℕ → Assignment
x into y = record { child = x; container = y }

-- "Process 1 of user 5"
infix 70 ◌of◌
abbrev pub ◌of◌ : ℕ → ℕ → Process
i of u = record { id = i; owner = u }

-- "Classes 1, 2. User attributes 3 (in 2), 4 (in 1). Users 5 (in 3, 4), 6 (in 3). Object attributes 7 (in 2), 8 (in 1). Objects 9 (in 7),
-- 10 (in 7, 8), 511 (in 8). Associations (3, {0,1}, 7), (4, {0}, 8). Process 1 of user 5, 2 of user 6."
unfoldable pub house : Policy
house = record {
  elements =
      1 is class ∷ 2 is class
      ∷ 3 is user_attribute ∷ 4 is user_attribute
      ∷ 5 is user ∷ 6 is user
      ∷ 7 is object_attribute ∷ 8 is object_attribute
      ∷ 9 is object ∷ 10 is object ∷ 511 is object
      ∷ [];
  assignments =
      3 into 2 ∷ 4 into 1
      ∷ 5 into 3 ∷ 5 into 4 ∷ 6 into 3
      ∷ 7 into 2 ∷ 8 into 1
      ∷ 9 into 7 ∷ 10 into 7 ∷ 10 into 8 ∷ 511 into 8
      ∷ [];
  associations =
      record { attribute = 3; target = 7; rights = 3 }
      ∷ record { attribute = 4; target = 8; rights = 1 }
      ∷ [];
  prohibitions = [];
  processes = 1 of 5 ∷ 2 of 6 ∷ [];
}

-- what is asked in a case
pub data Question : Type 0 where
  a_request : Request → Question
  a_command : Command → Question

-- what must be answered
pub data Outcome : Type 0 where
  grants : (alternative : ℕ) → Outcome
  denies : (cause number : ℕ) → Outcome
  refuses : (refusal : ℕ) → Outcome
  accepts : Outcome

-- A case: commands that come first, and then a request or a command, with what it must answer.
pub record Case : Type 0 where
  pub given : List Command
  pub question : Question
  pub outcome : Outcome

-- what the definitions answer, over any containment
unfoldable pub told : List Row → Answer Verdict → Outcome
told why (refused n) = refuses n
told why (accepted (grant k)) = grants k
told [] (accepted deny) = denies 0 0
told (r ∷ l) (accepted deny) = denies r.cause r.number

-- the answer to a question
unfoldable pub answer_to : (W : Policy → ℕ → ℕ → Bool) → Policy → Question → Outcome
answer_to W p (a_request q) = told (rows (W p) p q) (decision (W p) true p q)
answer_to W p (a_command c) = cond (eqb (command_refusal p c) 0) accepts (refuses (command_refusal p c))

-- the answer in a case, each starting from the small house
unfoldable pub answer_in : (W : Policy → ℕ → ℕ → Bool) → Case → Outcome
answer_in W k = answer_to W (run house k.given) k.question

-- "1 reads 9" and the like
abbrev pub reads : ℕ → ℕ → Question
reads i x = a_request (record { process = i; operation = 1; first = x; second = 0; third = 0 })

-- "1 writes 10"
abbrev pub writes : ℕ → ℕ → Question
writes i x = a_request (record { process = i; operation = 2; first = x; second = 0; third = 0 })

-- "1 finds 9"
abbrev pub finds : ℕ → ℕ → Question
finds i x = a_request (record { process = i; operation = 3; first = x; second = 0; third = 0 })

-- "prohibit user 5 {0}"
abbrev pub prohibit : (form : ℕ) → (inclusion exclusion : List ℕ) → List Command
prohibit form ins outs =
    create_prohibition (record { sort = by_user; subject = 5; form = form; rights = 1; inclusion = ins; exclusion = outs }) ∷ []

-- form 1
abbrev pub conjunctive : ℕ
conjunctive = 1

-- a question, and what it must be answered
infix 15 ◌⇒◌
abbrev pub ◌⇒◌ : Question → Outcome → Case
q ⇒ o = record { given = []; question = q; outcome = o }

-- commands first, and then a case
infix 14 ◌then◌
abbrev pub ◌then◌ : List Command → Case → Case
cs then k = record { given = cs; question = k.question; outcome = k.outcome }

-- K1 to K12
unfoldable pub cases : List Case
cases =
    -- K1, K2, K3
    (reads 1 9 ⇒ grants 1)
    ∷ (reads 1 10 ⇒ grants 1)
    ∷ (reads 2 10 ⇒ denies 1 1)
    -- K4, K5, K6
    ∷ (writes 1 10 ⇒ denies 1 1)
    ∷ (reads 1 511 ⇒ grants 1)
    ∷ (finds 1 9 ⇒ grants 2)
    -- K7
    ∷ (prohibit conjunctive (one 7) (one 8) then (reads 1 9 ⇒ denies 2 5))
    ∷ (prohibit conjunctive (one 7) (one 8) then (reads 1 10 ⇒ grants 1))
    -- K8
    ∷ (prohibit disjunctive (one 7) (one 8) then (reads 1 9 ⇒ denies 2 5))
    ∷ (prohibit disjunctive (one 7) (one 8) then (reads 1 10 ⇒ denies 2 5))
    ∷ (prohibit disjunctive (one 7) (one 8) then (reads 1 511 ⇒ grants 1))
    -- K9
    ∷ (prohibit conjunctive [] (one 8) then (reads 1 9 ⇒ denies 2 5))
    ∷ (prohibit conjunctive [] (one 8) then (reads 1 10 ⇒ grants 1))
    -- K10
    ∷ (reads 1 2 ⇒ refuses 5)
    ∷ (reads 3 9 ⇒ refuses 4)
    -- K11
    ∷ (a_command (assign 7 7) ⇒ refuses 7)
    ∷ (a_command (assign 7 9) ⇒ refuses 5)
    ∷ (a_command (assign 9 7) ⇒ refuses 3)
    -- K12
    ∷ (a_command (deassign 9 7) ⇒ refuses 8)
    ∷ (a_command (delete_element 7) ⇒ refuses 9)
    ∷ (a_command (deassign 10 7) ⇒ accepts)
    ∷ []
