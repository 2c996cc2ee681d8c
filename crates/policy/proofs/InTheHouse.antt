-- What the calls answer in the cases K1 to K12 of the small house.
-- Assumes nothing.
use mathlib.Core.Path.{◌≡◌, refl, sym, ap, subst, subst₂, ◌∙◌}
use mathlib.Core.Bool.{Bool, true, cond, ◌&&◌}
use mathlib.Core.List.{List, [], ◌∷◌, ◌++◌, map}
use Prim.Native.Nat.{ℕ, ◌≤◌}
use native.Mathlib.Omega.{arith}
use borrow.Author.Tests.{ne_eqb, leb-true}
use lib.Dec.{eqb, leb}
use lib.ListN.{length, take, drop, length-map, take-append-drop}
use Rattle.model.specs.Lists.{In, first, later, all_of}
use Rattle.model.specs.Policy.{Policy}
use Rattle.model.specs.Contain.{contained}
use Rattle.model.specs.Sound.{Sound}
use Rattle.model.specs.Refusal.{Line, First, None, Answer, refused, accepted, proper}
use Rattle.model.specs.Request.{Request as Asks, Verdict, grant, deny, decision}
use Rattle.model.specs.Explain as explain
use Rattle.model.specs.Command.{Command, fits, command_lines, command_refusal, step}
use Rattle.model.specs.History.{run}
use Rattle.model.specs.Index.{index_of}
use Rattle.model.specs.Calls.{lent, decide, command}
use Rattle.model.specs.House.{house, Question, a_request, a_command, Case, cases, accepts, refuses, answer_to, answer_in}
use Rattle.model.specs.House as house-of
use Rattle.model.proofs.Definitions.{definitions}
use Rattle.model.proofs.SmallHouse as model
use Rattle.model.proofs.Truth.{all_in, and_cut}
use Rattle.model.proofs.Refusals.{Judged, by, clear, judged, first_given, none_given, first_not_0}
use Rattle.model.proofs.Indexed.{index_length}
use Rattle.model.proofs.Decisions.Answers.{explained_refused}
use Rattle.model.proofs.Decisions.ByIndex.{indexed_as_plain}
use Rattle.model.proofs.Commands.Lines.{commands_numbered}
use Rattle.model.proofs.Commands.Upkeep.{command_steps}
use Rattle.table.specs.View.{holds_table, policy_of, memory}
use Rattle.std.specs.Prelude.{Result, Ok, Err}
use Rattle.answer.specs.declared.Refusal.{Refusal}
use Rattle.answer.specs.Answers as result
use Rattle.answer.proofs.Told.{refused_told}
use Rattle.table.proofs.Outcomes.{never}
use Rattle.request.specs.Asks.{request_of}
use Rattle.request.specs.declared.Request.{Request}
use Rattle.decide.specs.Answers as decided
use Rattle.decide.specs.declared.Decision.{Decision}
use Rattle.decide.specs.declared.Decision.TheVariants as decision
use Rattle.explain.specs.Answers.{explained_by, Left, numbers_of, numbers, explaining}
use Rattle.explain.specs.declared.Explanation.{Explanation}
use Rattle.explain.specs.declared.Explanation.TheVariants as explanation
use Rattle.explain.proofs.Theorems as explained
use Rattle.rows.specs.Rows.{row_of, numbers_in}
use Rattle.rows.specs.declared.Row.{Row}
use Rattle.rows.proofs.Theorems.{as_numbers}
use Rattle.command.proofs.Theorems.{refusals_exact, done_exact, policy_after}
use Rattle.history.specs.Steps.{Step, Meets, Run, none, then, commands_of}
use Rattle.history.proofs.Beginnings.{Kept}
use Rattle.history.proofs.Stepped.{step_kept}
use Rattle.policy.specs.Allows as allows
use Rattle.policy.specs.Cases.{Decides, FirstRow, Explains, Commands, cause_in, number_in, cause_of, number_of, struct_of, RequestAnswered, Answered}

-- The policy after a step, on a table with its index, is the one after its command, done or refused
step_taken : (s : Step) → Meets s → Kept s.words s.bytes → policy_of s.words' ≡ step (policy_of s.words) s.command
step_taken s m k =
    policy_after m.call
    ∙ ap (λ (b : Bool). (command (record { holds_table = b; policy = policy_of s.words }) s.bytes s.command).table) k.table
    ∙ command_steps (policy_of s.words) s.bytes s.command (ap length k.index ∙ index_length (policy_of s.words))

-- so the policy after a run is the one after its commands
pub run_policy : {words bytes : List ℕ} {steps : List Step} {words' bytes' : List ℕ} → Kept words bytes → Run words bytes steps words' bytes'
    → policy_of words' ≡ run (policy_of words) (commands_of steps)
unfolding run
run_policy k none = refl
run_policy k (then s m {steps = steps} r) = run_policy (step_kept s m k) r ∙ ap (λ p. run p (commands_of steps)) (step_taken s m k)

-- A decision is what the cases tell of it.
decides_told : (why : List explain.Row) (r : Result Decision Refusal) → Decides (house-of.told why (decided.told r)) r
unfolding Decides house-of.told result.told decided.verdict_of
decides_told why (Ok (decision.Grant k)) = refl
decides_told [] (Ok decision.Deny) = refl
decides_told (row ∷ why) (Ok decision.Deny) = refl
decides_told why (Err x) = record { why = x; is = refl; its_number = refl }

-- so is an outcome of a command, on words that hold a table and an index of 32,768 bytes
commands_told : (words bytes : List ℕ) (c : Command) (r : Result (Unit {0}) Refusal) (words' bytes' : List ℕ) → allows.command words bytes c r words' bytes'
    → holds_table words ≡ true → length bytes ≡ 32768
    → Commands (cond (eqb (command_refusal (policy_of words) c) 0) accepts (refuses (command_refusal (policy_of words) c))) r
unfolding Commands command_refusal
commands_told words bytes c r words' bytes' k t size = go (judged (command_lines (lent (memory words) bytes) (policy_of words) c))
  where
    found : (P : List Line → Type 0) → P (command_lines (lent (memory words) bytes) (policy_of words) c) → P (command_lines proper (policy_of words) c)
    found P = subst₂ (λ b n. P (command_lines (record { holds_table = b; index = n }) (policy_of words) c)) t size

    go : Judged (command_lines (lent (memory words) bytes) (policy_of words) c)
        → Commands (cond (eqb (command_refusal (policy_of words) c) 0) accepts (refuses (command_refusal (policy_of words) c))) r
    go (by {n = n} f) =
        let g : First n (command_lines proper (policy_of words) c) = found (First n) f in
        let ne : n ≡ 0 → ⊥ = λ q. first_not_0 (commands_numbered proper (policy_of words) c) (rw q at g) in
        rw (first_given g, ne_eqb n 0 ne) ((refusals_exact k n).1 f)
    go (clear f) = rw (none_given (found None f)) ((done_exact k).1 f)

-- the rows of a request are not empty, and two are enough to be lent
record FewRows (p : Policy) (q : Asks) : Type 0 where
  some : 1 ≤ length (explain.rows (contained p) p q)
  few : length (explain.rows (contained p) p q) ≤ 2

-- the first of the rows that stand in front
first_row : (p : Policy) (q : Asks) {row : explain.Row} {l : List explain.Row} → explain.rows (contained p) p q ≡ row ∷ l → (n : ℕ) (out : List (List ℕ))
    → take n out ≡ numbers p q → FirstRow cause_in number_in out row.cause row.number
unfolding numbers
first_row p q {row} {l} e n out w = record {
  row = numbers_of row;
  others = map numbers_of l ++ drop n out;
  first = sym (take-append-drop n out) ∙ ap (λ (front : List (List ℕ)). front ++ drop n out) (w ∙ ap (map numbers_of) e);
  its_cause = refl;
  its_number = refl;
}

-- an explanation is what is told of the plain decision, with the cause and the number of its first row, where enough rows are lent
explains_told : (words : List ℕ) (q : Request) (room out : List (List ℕ)) (r : Result Explanation Refusal) → allows.explain_numbers words q room r out
    → FewRows (policy_of words) (request_of q) → 2 ≤ length room
    → Explains cause_in number_in
    (house-of.told (explain.rows (contained (policy_of words)) (policy_of words) (request_of q)) (decide (memory words) (request_of q))) r out
unfolding Explains house-of.told result.told decided.verdict_of decide explaining
explains_told words q room out r e few two = go (decide (memory words) (request_of q)) refl
  where
    enough : length (explain.rows (contained (policy_of words)) (policy_of words) (request_of q)) ≤ length room
    enough = let n = few.few in omega arith

    denied : (l : List explain.Row) → explain.rows (contained (policy_of words)) (policy_of words) (request_of q) ≡ l
        → r ≡ Ok (explanation.Deny (length (explain.rows (contained (policy_of words)) (policy_of words) (request_of q))))
        → Explains cause_in number_in (house-of.told l (accepted deny)) r out
    denied [] f h = let n = few.some in let z = ap length f in absurd (omega arith)
    denied (row ∷ l) f h =
        let n = length (explain.rows (contained (policy_of words)) (policy_of words) (request_of q)) in
        ((n, h), first_row (policy_of words) (request_of q) f n out ((explained.rows_exact words q room out r e).denied n h).first)

    go : (a : Answer Verdict) → decide (memory words) (request_of q) ≡ a
        → Explains cause_in number_in
        (house-of.told (explain.rows (contained (policy_of words)) (policy_of words) (request_of q)) a) r out
    go (refused n) f =
        refused_told explained_by r
        (ap (λ (b : Left). b.answers) e ∙ explained_refused (contained (policy_of words)) (holds_table words) (length room) (policy_of words) (request_of q) f)
    go (accepted (grant k)) f =
        (length (explain.rows (contained (policy_of words)) (policy_of words) (request_of q)), (explained.as_decided words q room out r e (Ok (decision.Grant k)) (sym f)).grants k refl enough)
    go (accepted deny) f =
        denied (explain.rows (contained (policy_of words)) (policy_of words) (request_of q)) refl ((explained.as_decided words q room out r e (Ok decision.Deny) (sym f)).denies refl enough)

-- what is so of the numbers of the rows is so of the rows as structs
in_structs : (o : house-of.Outcome) (r : Result Explanation Refusal) (out : List Row) → Explains cause_in number_in o r (numbers_in out)
    → Explains cause_of number_of o r out
unfolding Explains
in_structs (house-of.grants k) r out h = h
in_structs (house-of.denies cause number) r out h = (h.0, go out h.1)
  where
    go : (out : List Row) → FirstRow cause_in number_in (numbers_in out) cause number
        → FirstRow cause_of number_of out cause number
    go [] f = let e : [] ≡ f.row ∷ f.others = f.first in never (cc)
    go (row ∷ l) f =
        let e : numbers_of (row_of row) ∷ numbers_in l ≡ f.row ∷ f.others = f.first in
        let g : numbers_of (row_of row) ≡ f.row = cc in
        record {
          row = row;
          others = l;
          first = refl;
          its_cause = ap cause_in g ∙ f.its_cause;
          its_number = ap number_in g ∙ f.its_number;
        }
in_structs (house-of.refuses n) r out h = h
in_structs house-of.accepts r out h = h

-- two functions that agree over a list agree of each of its members
agree_in : {A B : Type 0} (f g : A → B) {a : A} {l : List A} → In a l → map f l ≡ map g l → f a ≡ g a
agree_in f g first e = cc
agree_in f g (later {b = b} {l = l} i) e = let d : map f l ≡ map g l = cc in agree_in f g i d

-- a request has one row or two
abbrev few_for : Policy → Question → Bool
few_for p (a_request q) = leb 1 (length (explain.rows (contained p) p q)) && leb (length (explain.rows (contained p) p q)) 2
few_for p (a_command c) = true

-- so has the request of each case
few_in_each : all_of (λ (k : Case). few_for (run house k.given) k.question) cases ≡ true
unfolding definitions
few_in_each = refl

-- a caller can pass the commands of each case
pub fit_in_each : all_of (λ (k : Case). all_of fits k.given) cases ≡ true
unfolding definitions
fit_in_each = refl

-- what is so of the house and its index
pub at_home : (mem : List ℕ) → holds_table mem ≡ true → policy_of mem ≡ house → Kept mem (index_of house)
at_home mem t e = record { table = t; sound = subst Sound (sym e) model.house_sound; index = ap index_of (sym e) }

module _ (k : Case) (i : In k cases) (words bytes : List ℕ) (kept : Kept words bytes) (e : policy_of words ≡ run house k.given) where
  -- the case's outcome is what the definitions answer
  outcome_is : answer_to contained (policy_of words) k.question ≡ k.outcome
  unfolding answer_in
  outcome_is = ap (λ p. answer_to contained p k.question) e ∙ agree_in (answer_in contained) (λ c. c.outcome) i model.small_house

  module _ (q : Asks) (asks : k.question ≡ a_request q) where
    -- of a request, by the plain decision
    request_is : house-of.told (explain.rows (contained (policy_of words)) (policy_of words) q) (decide (memory words) q) ≡ k.outcome
    unfolding decide answer_to
    request_is =
        ap (λ b. house-of.told (explain.rows (contained (policy_of words)) (policy_of words) q) (decision (contained (policy_of words)) b (policy_of words) q)) kept.table
        ∙ ap (answer_to contained (policy_of words)) (sym asks)
        ∙ outcome_is

    -- its rows are few
    few_rows : FewRows (policy_of words) q
    few_rows =
        let t : few_for (policy_of words) (a_request q) ≡ true =
        ap (λ p. few_for p (a_request q)) e ∙ ap (few_for (run house k.given)) (sym asks) ∙ all_in _ few_in_each i in
        let n = length (explain.rows (contained (policy_of words)) (policy_of words) q) in
        let c = and_cut (leb 1 n) (leb n 2) t in
        record { some = leb-true 1 n c.0; few = leb-true n 2 c.1 }

    -- the plain decision is the case's outcome
    plain : (r : Result Decision Refusal) → allows.decide words (struct_of q) r → Decides k.outcome r
    plain r f = subst (λ o. Decides o r) (ap (house-of.told _) f ∙ request_is) (decides_told _ r)

    -- so is the explanation, with its first row
    by_numbers : (room out : List (List ℕ)) (r : Result Explanation Refusal) → 2 ≤ length room → allows.explain_numbers words (struct_of q) room r out
        → Explains cause_in number_in k.outcome r out
    by_numbers room out r two f =
        subst (λ o. Explains cause_in number_in o r out) request_is (explains_told words (struct_of q) room out r f few_rows two)

    -- so are all four calls that take a request
    request_answered : RequestAnswered (struct_of q) k.outcome words bytes
    request_answered = record {
      decide = plain;
      decide_indexed = λ r f. plain r (f ∙ rw (kept.table, kept.index) (indexed_as_plain (policy_of words) kept.sound q));
      explain_numbers = by_numbers;
      explain = λ room out r two f.
          let size : length (numbers_in room) ≡ length room = length-map (map row_of room) numbers_of ∙ length-map room row_of in
          in_structs k.outcome r out (by_numbers (numbers_in room) (numbers_in out) r (omega arith) (as_numbers (memory words) q room out r f));
    }

  -- a command is
  command_answered : (c : Command) → k.question ≡ a_command c → (r : Result (Unit {0}) Refusal) (words' bytes' : List ℕ) → allows.command words bytes c r words' bytes'
      → Commands k.outcome r
  unfolding answer_to
  command_answered c asks r words' bytes' f =
      let size : length bytes ≡ 32768 = ap length kept.index ∙ index_length (policy_of words) in
      subst (λ o. Commands o r) (ap (answer_to contained (policy_of words)) (sym asks) ∙ outcome_is) (commands_told words bytes c r words' bytes' f kept.table size)

  -- every result that the contracts allow is the case's outcome
  pub answered : Answered k.question k.outcome words bytes
  unfolding Answered
  answered = go k.question refl
    where
      go : (question : Question) → k.question ≡ question → Answered question k.outcome words bytes
      go (a_request q) asks = request_answered q asks
      go (a_command c) asks = command_answered c asks
