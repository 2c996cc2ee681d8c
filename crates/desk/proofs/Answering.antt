-- What the line of a request is, and what the calls that answer requests print, return by return.
-- Assumes nothing.
use mathlib.Core.Path.{◌≡◌, sym, ap, ◌∙◌}
use mathlib.Core.Bool.{Bool, true, false, not}
use mathlib.Core.List.{List, [], ◌∷◌}
use Prim.Native.Nat.{ℕ, ◌*◌, ◌/◌, ◌≤◌, ◌<◌}
use native.Mathlib.Omega.{arith}
use borrow.Author.Tests.{eq-eqb, ne_eqb, lt-ltb, le-ltb, not-true, not-false}
use lib.ListN.{length, take, replicate}
use Rattle.model.specs.Contain.{contained}
use Rattle.model.specs.Refusal.{None, accepted, answer}
use Rattle.model.specs.Request.{request_lines, deny, verdict, decision}
use Rattle.model.specs.Explain.{rows}
use Rattle.model.specs.Bits.{bits_of}
use Rattle.model.specs.Calls.{decide, kept}
use Rattle.model.specs.Desk.{line, deny_line, answer_line, request_in, request_line, requests_of}
use Rattle.model.proofs.Refusals.{accepted_none}
use Rattle.model.proofs.Decisions.Answers.{explained_as_decided}
use Rattle.model.proofs.Decisions.Rows.{deny_rows_few}
use Rattle.bits.specs.Cursor.{Taken}
use Rattle.std.specs.Prelude.{Result, Ok, Err}
use Rattle.answer.specs.declared.Refusal.{Refusal}
use Rattle.answer.specs.declared.Refusal.TheVariants.{NoTable, NoRoom}
use Rattle.answer.specs.Answers as answers
use Rattle.answer.specs.Answers.{number_of}
use Rattle.table.specs.View.{holds_table, policy_of, memory}
use Rattle.table.specs.Facts.{Table}
use Rattle.table.proofs.Test.{of_table}
use Rattle.request.specs.declared.Request.{Request}
use Rattle.request.specs.Asks.{request_of, Accepted}
use Rattle.request.proofs.Accepts.{none_known, accepted_decision}
use Rattle.decide.specs.declared.Decision.{Decision}
use Rattle.decide.specs.declared.Decision.TheVariants.{Grant as Grants, Deny as Denies}
use Rattle.decide.specs.Answers.{verdict_of, told as tells}
use Rattle.explain.specs.declared.Explanation.{Explanation}
use Rattle.explain.specs.declared.Explanation.TheVariants.{Deny}
use Rattle.explain.specs.Answers.{explained_by, Left, left as left_numbers, explaining}
use Rattle.explain.proofs.Answered.{one_explanation}
use Rattle.explain.specs.Results.{first_why}
use Rattle.explain.proofs.Theorems.{first_deny_row}
use Rattle.lines.specs.Typing.{Typed}
use Rattle.desk.specs.Allows as allows
use Rattle.desk.proofs.Front.{in_front}
use Rattle.desk.specs.Printing.{line_room, first_line, answering, request_count, answering_all}

-- two lent rows suffice for a deny, so that its explanation is a deny
pub deny_explained : {mem : List ℕ} {q : Request} → Table mem → Accepted mem q → verdict (contained (policy_of mem)) (policy_of mem) (request_of q) ≡ deny
    → (r : Result Explanation Refusal) (room : List (List ℕ)) {why : List (List ℕ)} → 2 ≤ length room → left_numbers r why ≡ explaining (memory mem) (request_of q) room
    → r ≡ Ok (Deny (length (rows (contained (policy_of mem)) (policy_of mem) (request_of q))))
unfolding explaining answers.told explained_by
deny_explained {mem} {q} t k d r room n e =
    let p = policy_of mem in
    let few : length (rows (contained p) p (request_of q)) ≤ length room = omega (arith, deny_rows_few (contained p) p (request_of q) d) in
    let v : decision (contained p) (holds_table mem) p (request_of q) ≡ accepted deny =
    rw (of_table t) (accepted_decision (contained p) p (request_of q) k.lines ∙ ap accepted d) in
    one_explanation r (Ok (Deny (length (rows (contained p) p (request_of q)))))
    (ap (λ (b : Left). b.answers) e ∙ explained_as_decided (contained p) (holds_table mem) (length room) p (request_of q) v few)

-- the line of a deny: the argument, the right, the cause and the number of the first row
pub denial_put : {mem : List ℕ} {q : Request} → Table mem → Accepted mem q → verdict (contained (policy_of mem)) (policy_of mem) (request_of q) ≡ deny
    → (r : Result Explanation Refusal) {why : List (List ℕ)} → left_numbers r why ≡ explaining (memory mem) (request_of q) (replicate 2 (replicate 8 0))
    → {out out' : List ℕ} {n : ℕ} → Typed (line 68 (first_why why)) 0 out out' n
    → Typed (deny_line (rows (contained (policy_of mem)) (policy_of mem) (request_of q))) 0 out out' n
denial_put {mem} {q} t k d r {why} e w =
    let f = first_deny_row mem q (replicate 2 (replicate 8 0)) why r e (deny_explained t k d r (replicate 2 (replicate 8 0)) (omega arith) e) in
    rw f at w

-- The line of a request of forty bits, on memory that holds a table.
module _ {mem s : List ℕ} (t : Table mem) {last behind : ℕ} (bit : Taken s 39 1 last behind) where
  -- "A set fortieth bit is `R 2`"
  pub set_put : last ≡ 1 → {out out' : List ℕ} {n : ℕ} → Typed (line 82 (2 ∷ [])) 0 out out' n → Typed (request_line (policy_of mem) (bits_of s)) 0 out out' n
  unfolding request_line
  set_put h w = rw (eq-eqb _ 1 (sym bit.value_is ∙ h)) w

  module _ (clear : last ≡ 1 → ⊥) {q : Request} (asks : request_of q ≡ request_in (bits_of s)) where
    -- the line is the decision's, where the last bit is clear
    line_is : request_line (policy_of mem) (bits_of s)
        ≡ answer_line (rows (contained (policy_of mem)) (policy_of mem) (request_of q)) (decide (memory mem) (request_of q))
    unfolding request_line decide
    line_is = rw (ne_eqb _ 1 (λ h. clear (bit.value_is ∙ h)), asks, of_table t)

    -- "or `R refusal`"
    pub refusal_put : (x : Refusal) {k : ℕ} → k ≡ number_of x → tells (Err x) ≡ decide (memory mem) (request_of q)
        → {out out' : List ℕ} {n : ℕ} → Typed (line 82 (k ∷ [])) 0 out out' n → Typed (request_line (policy_of mem) (bits_of s)) 0 out out' n
    unfolding answers.told answer_line
    refusal_put x d e w = rw (line_is, ← e, ← d) w

    -- or the verdict's line
    pub verdict_put : {out out' : List ℕ} {n : ℕ}
        → Typed (answer_line (rows (contained (policy_of mem)) (policy_of mem) (request_of q)) (decide (memory mem) (request_of q))) 0 out out' n
        → Typed (request_line (policy_of mem) (bits_of s)) 0 out out' n
    verdict_put w = rw line_is w

-- The line of a verdict.
module _ (mem : List ℕ) (q : Request) {d : Decision} (e : tells (Ok d) ≡ decide (memory mem) (request_of q)) where
  -- "`G alternative`"
  pub grant_put : {k : ℕ} → d ≡ Grants k → {out out' : List ℕ} {n : ℕ} → Typed (line 71 (k ∷ [])) 0 out out' n
      → Typed (answer_line (rows (contained (policy_of mem)) (policy_of mem) (request_of q)) (decide (memory mem) (request_of q))) 0 out out' n
  unfolding answers.told verdict_of answer_line
  grant_put h w = rw (← e, h) w

  -- "`D argument right cause number` for alternative 1"
  pub deny_put : d ≡ Denies → {out out' : List ℕ} {n : ℕ} → Typed (deny_line (rows (contained (policy_of mem)) (policy_of mem) (request_of q))) 0 out out' n
      → Typed (answer_line (rows (contained (policy_of mem)) (policy_of mem) (request_of q)) (decide (memory mem) (request_of q))) 0 out out' n
  unfolding answers.told verdict_of answer_line
  deny_put h w = rw (← e, h) w

-- a request that is denied is met by no refusal line, and its verdict is deny
denied_none : {mem : List ℕ} (q : Request) → Table mem → {d : Decision} → d ≡ Denies → tells (Ok d) ≡ decide (memory mem) (request_of q)
    → None (request_lines true (policy_of mem) (request_of q)) × (deny ≡ verdict (contained (policy_of mem)) (policy_of mem) (request_of q))
unfolding answers.told verdict_of decide decision
denied_none {mem} q t h e =
    accepted_none (verdict (contained (policy_of mem)) (policy_of mem) (request_of q)) (request_lines true (policy_of mem) (request_of q))
    (sym (rw (of_table t, h) at e))

-- so it is not refused
pub denied_accepted : {mem : List ℕ} (q : Request) → Table mem → {d : Decision} → d ≡ Denies → tells (Ok d) ≡ decide (memory mem) (request_of q) → Accepted mem q
denied_accepted {mem} q t h e = none_known mem q (denied_none q t h e).0

-- and is denied
pub denied_verdict : {mem : List ℕ} (q : Request) → Table mem → {d : Decision} → d ≡ Denies → tells (Ok d) ≡ decide (memory mem) (request_of q)
    → verdict (contained (policy_of mem)) (policy_of mem) (request_of q) ≡ deny
denied_verdict q t h e = sym (denied_none q t h e).1

-- The call that answers a request, on any memory, any bytes and any room.
module _ (mem s out : List ℕ) where
  -- the memory holds no table
  pub no_table_lem : {t : Bool} → t ≡ holds_table mem → not t ≡ true → allows.answer mem s out (Err NoTable) out
  unfolding answering answers.told answer kept
  no_table_lem {t} e f = let n : holds_table mem ≡ false = sym e ∙ not-true t f in rw n

  module _ {t : Bool} (e : t ≡ holds_table mem) (f : not t ≡ false) where
    -- the lent bytes are too few
    pub no_room : length out < 64 → allows.answer mem s out (Err NoRoom) out
    unfolding answering answers.told answer kept
    no_room h = let k : holds_table mem ≡ true = sym e ∙ not-false t f in rw (k, lt-ltb (length out) 64 h)

    module _ (h : 64 ≤ length out) where
      -- the line stands in front of the other bytes
      line_printed : {out' : List ℕ} {n : ℕ} → Typed (first_line (policy_of mem) s) 0 out out' n → allows.answer mem s out (Ok n) out'
      unfolding answering answers.told answer kept
      line_printed w =
          let k : holds_table mem ≡ true = sym e ∙ not-false t f in
          rw (k, le-ltb (length out) 64 h, (in_front w).0, (in_front w).1)

      -- there is no request
      pub none_printed : length s ≡ 0 → allows.answer mem s out (Ok 0) out
      unfolding answering answers.told answer kept first_line
      none_printed z =
          let k : holds_table mem ≡ true = sym e ∙ not-false t f in
          rw (k, le-ltb (length out) 64 h, eq-eqb (length s) 0 z)

      module _ (some : length s ≡ 0 → ⊥) where
        -- "a last request cut short is `R 12`"
        pub cut_printed : length s < 5 → {out' : List ℕ} {n : ℕ} → Typed (line 82 (12 ∷ [])) 0 out out' n → allows.answer mem s out (Ok n) out'
        unfolding first_line
        cut_printed l w = line_printed (rw (ne_eqb (length s) 0 some, lt-ltb (length s) 5 l) w)

        -- the line of a request that is not cut
        pub request_printed : 5 ≤ length s → {out' : List ℕ} {n : ℕ} → Typed (request_line (policy_of mem) (bits_of (take 5 s))) 0 out out' n
            → allows.answer mem s out (Ok n) out'
        unfolding first_line
        request_printed l w = line_printed (rw (ne_eqb (length s) 0 some, le-ltb (length s) 5 l) w)

-- The call that answers all requests, on any memory, any bytes and any room.
module _ (mem s out : List ℕ) where
  -- the memory holds no table
  pub all_no_table : {t : Bool} → t ≡ holds_table mem → not t ≡ true → allows.answer_all mem s out (Err NoTable) out
  unfolding answering_all answers.told answer kept
  all_no_table {t} e f = let n : holds_table mem ≡ false = sym e ∙ not-true t f in rw n

  module _ {n : ℕ} (count : n ≡ request_count s) where
    -- the lent bytes suffice
    pub room_enough : n ≤ length out / 64 → line_room * request_count s ≤ length out
    room_enough h = omega arith

    module _ {t : Bool} (e : t ≡ holds_table mem) (f : not t ≡ false) where
      -- they are too few
      pub all_no_room : length out / 64 < n → allows.answer_all mem s out (Err NoRoom) out
      unfolding answering_all answers.told answer kept
      all_no_room h =
          let k : holds_table mem ≡ true = sym e ∙ not-false t f in
          rw (k, lt-ltb (length out) (line_room * request_count s) (omega arith))

      -- the lines stand in front of the other bytes
      pub lines_printed : n ≤ length out / 64 → {out' : List ℕ} {k : ℕ} → Typed (requests_of (policy_of mem) s) 0 out out' k → allows.answer_all mem s out (Ok k) out'
      unfolding answering_all answers.told answer kept
      lines_printed h w =
          let k : holds_table mem ≡ true = sym e ∙ not-false t f in
          rw (k, le-ltb (length out) (line_room * request_count s) (room_enough h), (in_front w).0, (in_front w).1)
