-- The answer where so many rows are lent, from the answer where there are enough.
-- Assumes nothing.
use mathlib.Core.Path.{◌≡◌, refl, sym, ap, ◌∙◌}
use mathlib.Core.Bool.{Bool, true, false, cond}
use mathlib.Core.List.{List, [], ◌∷◌, ◌++◌}
use Prim.Native.Nat.{ℕ, ◌≤◌, ◌<◌}
use native.Mathlib.Omega.{arith}
use lib.Dec.{ltb}
use lib.ListN.{length, drop, length-append, length-map}
use lib.Seq.{take_at}
use borrow.Author.Tests.{lt-ltb, le-ltb, ltb-false}
use Rattle.model.specs.Lists.{one}
use Rattle.model.specs.Contain.{contained}
use Rattle.model.specs.Refusal.{Line, ◌when◌, Answer, refused, accepted, answer}
use Rattle.model.specs.Request.{Request as Asks, verdict, request_lines}
use Rattle.model.specs.Explain.{Explained, rows, explanation}
use Rattle.model.specs.Calls.{Memory, kept, over}
use Rattle.table.specs.View.{memory, policy_of}
use Rattle.std.specs.Prelude.{Result, Ok, Err}
use Rattle.answer.specs.declared.Refusal.{Refusal}
use Rattle.answer.specs.declared.Refusal.TheVariants.{NoRoom}
use Rattle.answer.specs.Answers as answers
use Rattle.explain.specs.Answers.{explained_by, told, numbers, numbers_of, left, explaining}
use Rattle.explain.specs.declared.Explanation.{Explanation}
use Rattle.explain.specs.declared.Explanation.TheVariants.{Grant, Deny}
use Rattle.rows.specs.Rows.{count_of, Tells}
use Rattle.rows.proofs.Few.{few_rows, few_elements}

-- 10 where it is asked, unless refused already
abbrev cut : Bool → Answer Explained → Answer Explained
cut b (refused n) = refused n
cut b (accepted a) = cond b (refused 10) (accepted a)

-- an answer with 10 for its last line
answer_cut : (ls : List Line) (b : Bool) (e : Explained) → answer (ls ++ one (10 when b)) e ≡ cut b (answer (ls ++ one (10 when false)) e)
unfolding answer
answer_cut [] b e = refl
answer_cut (l ∷ ls) b e = go l.holds (answer_cut ls b e)
  where
    go : (t : Bool) → answer (ls ++ one (10 when b)) e ≡ cut b (answer (ls ++ one (10 when false)) e)
        → cond t (refused l.number) (answer (ls ++ one (10 when b)) e) ≡ cut b (cond t (refused l.number) (answer (ls ++ one (10 when false)) e))
    go true h = refl
    go false h = h

-- a refusal is nothing accepted
not_accepted : {n : ℕ} {x : Explained} → refused n ≡ accepted x → ⊥
not_accepted e = let z : ◌≡◌ {A = ℕ} 0 1 = cc in omega arith

-- what is accepted is told once
same_told : {x e : Explained} → accepted e ≡ accepted x → x ≡ e
same_told h = cc

-- an answer that is accepted is what was asked for
answer_is : (ls : List Line) (e : Explained) {x : Explained} → answer ls e ≡ accepted x → x ≡ e
unfolding answer
answer_is [] e h = same_told h
answer_is (l ∷ ls) e {x} h = go l.holds h (answer_is ls e)
  where
    go : (t : Bool) → cond t (refused l.number) (answer ls e) ≡ accepted x → (answer ls e ≡ accepted x → x ≡ e) → x ≡ e
    go true h rec = absurd (not_accepted h)
    go false h rec = rec h

module _ (m : Memory) (q : Asks) (room : ℕ) where
  abbrev W : ℕ → ℕ → Bool
  W = contained m.policy

  abbrev N : ℕ
  N = length (rows W m.policy q)

  -- the explanation with other rows lent
  explained_at : (big : ℕ) → N ≤ big → explanation W m.holds_table room m.policy q ≡ cut (ltb room N) (explanation W m.holds_table big m.policy q)
  unfolding explanation
  explained_at big h =
      let e : Explained = record { verdict = verdict W m.policy q; count = N } in
      answer_cut (request_lines m.holds_table m.policy q) (ltb room N) e
      ∙ ap (λ b. cut (ltb room N) (answer (request_lines m.holds_table m.policy q ++ one (10 when b)) e)) (sym (le-ltb big N h))

  -- the count of an explanation that is not refused
  counted : (big : ℕ) {x : Explained} → explanation W m.holds_table big m.policy q ≡ accepted x → x.count ≡ N
  unfolding explanation
  counted big h = ap (λ x. x.count) (answer_is _ _ h)

  module _ (before after : List (List ℕ)) (big : N ≤ length before) (all : after ≡ (explaining m q before).rows) where
    -- a refusal
    refusing : (x : Refusal) → refused (answers.number_of x) ≡ explanation W m.holds_table (length before) m.policy q → Tells m q room (Err x) before after
    unfolding answers.told kept
    refusing x h = record { answers = ap (cut (ltb room N)) h ∙ sym (explained_at (length before) big); all = all; rows = refl; few = omega arith; many = omega arith }

    module _ (a : Explanation) (x : Explained) (t : told (Ok a) ≡ accepted x) (c : count_of a ≡ x.count) (h : accepted x ≡ explanation W m.holds_table (length before) m.policy q)
        (k : after ≡ over (numbers m.policy q) before) where
      -- the count is that of the rows
      count_is : count_of a ≡ N
      count_is = c ∙ counted (length before) (sym h)

      -- so many rows of numbers
      numbers_are : length (numbers m.policy q) ≡ count_of a
      unfolding numbers
      numbers_are = length-map (rows W m.policy q) numbers_of ∙ sym count_is

      -- what is not refused, 10 apart
      granting : (b : Bool) → ltb room (count_of a) ≡ b → Tells m q room (cond b (Err NoRoom) (Ok a)) before after
      unfolding answers.told kept
      granting true e = record {
        answers = ap (λ b. cond b (refused 10) (accepted x)) (sym e ∙ ap (ltb room) count_is) ∙ ap (cut (ltb room N)) h ∙ sym (explained_at (length before) big);
        all = all;
        rows = refl;
        few = omega arith;
        many = omega arith;
      }
      granting false e = record {
        answers = t ∙ ap (λ b. cond b (refused 10) (accepted x)) (sym e ∙ ap (ltb room) count_is) ∙ ap (cut (ltb room N)) h ∙ sym (explained_at (length before) big);
        all = all;
        rows = rw k (take_at (numbers m.policy q) (drop (length (numbers m.policy q)) before) (count_of a) numbers_are);
        few = ltb-false room (count_of a) e;
        many = rw k (let both = length-append (numbers m.policy q) (drop (length (numbers m.policy q)) before) in let same = numbers_are in omega arith);
      }

module _ (m : Memory) (q : Asks) (a : Result Explanation Refusal) (before after : List (List ℕ)) (e : left a after ≡ explaining m q before) where
  -- the answer with the first rows
  answers_of : told a ≡ explanation (contained m.policy) m.holds_table (length before) m.policy q
  unfolding explaining
  answers_of = ap (λ l. l.answers) e

  -- and the numbers of its rows
  rows_of : {x : Explained} → told a ≡ accepted x → after ≡ over (numbers m.policy q) before
  unfolding explaining kept
  rows_of t = ap (λ l. l.rows) e ∙ ap (λ o. kept o (over (numbers m.policy q) before) before) (sym answers_of ∙ t)

-- what is told where so many rows are lent
module _ (mem : List ℕ) (q : Asks) (room : ℕ) (before after : List (List ℕ)) (h : 1533 ≤ length before) where
  big : length (rows (contained (policy_of mem)) (policy_of mem) q) ≤ length before
  big = let few = few_rows (contained (policy_of mem)) (policy_of mem) (few_elements mem) q in omega arith

  -- what is refused whatever rows are lent
  pub tells_refused : (x : Refusal) → left (Err x) after ≡ explaining (memory mem) q before → Tells (memory mem) q room (Err x) before after
  unfolding answers.told
  tells_refused x e = refusing (memory mem) q room before after big (ap (λ l. l.rows) e) x (answers_of (memory mem) q (Err x) before after e)

  module _ (a : Explanation) (e : left (Ok a) after ≡ explaining (memory mem) q before) where
    told_so : (b : Bool) → ltb room (count_of a) ≡ b → Tells (memory mem) q room (cond b (Err NoRoom) (Ok a)) before after
    unfolding answers.told explained_by
    told_so = by a e
      where
        by : (a : Explanation) → left (Ok a) after ≡ explaining (memory mem) q before → (b : Bool) → ltb room (count_of a) ≡ b
            → Tells (memory mem) q room (cond b (Err NoRoom) (Ok a)) before after
        by (Grant k n) e = granting (memory mem) q room before after big (ap (λ l. l.rows) e) (Grant k n) _ refl refl (answers_of (memory mem) q (Ok (Grant k n)) before after e) (rows_of (memory mem) q (Ok (Grant k n)) before after e refl)
        by (Deny n) e = granting (memory mem) q room before after big (ap (λ l. l.rows) e) (Deny n) _ refl refl (answers_of (memory mem) q (Ok (Deny n)) before after e) (rows_of (memory mem) q (Ok (Deny n)) before after e refl)

    module _ {n : ℕ} (c : n ≡ count_of a) where
      -- more rows than are lent
      pub tells_too_few : room < n → Tells (memory mem) q room (Err NoRoom) before after
      tells_too_few l = told_so true (rw (sym c) (lt-ltb room n l))

      -- rows enough
      pub tells_enough : n ≤ room → Tells (memory mem) q room (Ok a) before after
      tells_enough l = told_so false (rw (sym c) (le-ltb room n l))
