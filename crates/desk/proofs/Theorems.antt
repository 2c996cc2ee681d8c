-- The headline theorems: what is claimed in specs/Claims.antt of every result that the contracts of the desk's calls allow, and of the whole output of
-- the desk program.
-- Assumes nothing.
use mathlib.Core.Path.{◌≡◌, refl, sym, ap, ◌∙◌}
use mathlib.Core.Bool.{Bool, true, not}
use mathlib.Core.List.{List, [], ◌∷◌, ◌++◌, append-nil}
use mathlib.Core.Logic.{inr}
use Prim.Native.Nat.{ℕ, ◌+◌, ◌%◌, ◌≤◌}
use native.Mathlib.Omega.{arith}
use borrow.Author.Tests.{eq-eqb, le-ltb, lt-ltb, ltb-true, not-false}
use lib.Dec.{eqb, leb}
use lib.ListN.{length, take, drop, replicate}
use lib.Seq.{take-append_seam}
use Rattle.model.specs.Policy.{Policy}
use Rattle.model.specs.Contain.{contained}
use Rattle.model.specs.Refusal.{None, end, past, Answer, refused, accepted, answer}
use Rattle.model.specs.Request.{Request as Asks, alternatives_of, request_lines}
use Rattle.model.specs.Calls.{Saving, kept, over}
use Rattle.model.specs.Desk.{line, L, counts_line, requests_of, desk}
use Rattle.model.proofs.Decisions.Rows.{deny_rows_few}
use Rattle.table.specs.Layout.{word_count}
use Rattle.table.specs.View.{holds_table, policy_of}
use Rattle.table.specs.Facts.{Table}
use Rattle.table.proofs.Test.{table_of_lem}
use Rattle.request.specs.declared.Request.{Request}
use Rattle.request.specs.Asks.{request_of, Accepted}
use Rattle.request.proofs.Operations.{some_alternative}
use Rattle.request.proofs.Accepts.{operation_some}
use Rattle.decide.specs.declared.Decision.TheVariants as decision
use Rattle.decide.proofs.Theorems.{deny_exact}
use Rattle.explain.specs.declared.Explanation.{Explanation}
use Rattle.explain.specs.declared.Explanation.TheVariants as explanation
use Rattle.explain.proofs.Theorems.{deny_rows_exact, first_deny_row}
use Rattle.policy.specs.Allows as policy
use Rattle.std.specs.Prelude.{Result, Ok}
use Rattle.answer.specs.declared.Refusal.{Refusal}
use Rattle.answer.specs.Answers as answers
use Rattle.desk.specs.declared.Opened.{Opened}
use Rattle.desk.specs.declared.Opened.TheVariants as opened
use Rattle.desk.specs.Printing.{line_room, first_line, answering, image_length, is_short, image_answer, begun_by, head_line, begun, words_in, Beginning}
use Rattle.desk.specs.Allows as allows
use Rattle.desk.specs.Claims.{Unique, WantedExact, BeginRefusalsExact, AnswerRefusalsExact, AnswerAllRefusalsExact, Begins, BeginExact, AnswerExact, AnswerAllExact, NeverTen, NeverTenAll, needed, TwoSuffice, TwoRowsSuffice, LinesAre, LinesExist, DeskPrints}
use Rattle.desk.specs.Running.{AtHand, Lines, none, then, all_then, Prints, all_printed, lines_follow}
use Rattle.desk.proofs.Answering.{deny_explained, denied_accepted, denied_verdict}
use Rattle.desk.proofs.Requests.{first_then, requests_short, hand_line, hand_lines, one_by_one}
use Rattle.desk.proofs.Lengths.{first_short}
use Rattle.desk.proofs.Apart.{first_apart}
use Rattle.desk.proofs.Reading.{short_wanted}
use Rattle.desk.proofs.Outputs.{desk_refused, desk_accepted}
use Rattle.desk.proofs.Results.{one_printed, one_opened, answer_puts, answer_all_puts, put_refused, put_none, put_exactly, put_bytes, put_text, begin_refused, begin_leaves, begin_none, begin_start, begin_table, begin_open_short, begin_closed_short}

-- the contract of each call allows one result
pub unique : Unique
unique = record {
  wanted = λ s r q e f. e ∙ sym f;
  begin = λ words s room r q words' words'' room' room'' e f. (
    one_opened r q (ap (λ (b : Beginning). b.answers) (e ∙ sym f)),
    ap (λ (b : Beginning). b.words) (e ∙ sym f),
    ap (λ (b : Beginning). b.bytes) (e ∙ sym f),
  );
  answer = λ words s room r q room' room'' e f.
      (one_printed r q (ap (λ (b : Saving). b.answers) (e ∙ sym f)), ap (λ (b : Saving). b.leaves) (e ∙ sym f));
  answer_all = λ words s room r q room' room'' e f.
      (one_printed r q (ap (λ (b : Saving). b.answers) (e ∙ sym f)), ap (λ (b : Saving). b.leaves) (e ∙ sym f));
}

-- the bytes are too few for the length or the image exactly where they are fewer than are wanted
pub wanted_exact : WantedExact
wanted_exact = λ s r e. (
  λ t. ltb-true (length s) r (rw e (sym (short_wanted s) ∙ t)),
  λ l. short_wanted s ∙ rw (sym e) (lt-ltb (length s) r l),
)

-- each refusal of `begin` is given exactly if its line holds and none before it does, and a refused call writes nothing
pub begin_refusals_exact : BeginRefusalsExact
begin_refusals_exact = λ words s room words' room' r e.
    record { exactly = begin_refused words s room r words' room' e; untouched = λ n h. begin_leaves words s room r words' room' e h }

-- so is each refusal of `answer`
pub answer_refusals_exact : AnswerRefusalsExact
answer_refusals_exact = λ words s room room' r e. put_refused (answer_puts words s room r room' e)

-- and of `answer_all`
pub answer_all_refusals_exact : AnswerAllRefusalsExact
answer_all_refusals_exact = λ words s room room' r e. put_refused (answer_all_puts words s room r room' e)

-- what `begin` tells, leaves and prints where it is not refused
pub begin_exact : BeginExact
begin_exact = record {
  begins = λ words s room words' room' r e. begin_none words s room r words' room' e;
  start = λ words s room words' room' n start e. begin_start words s room (Ok (opened.Open n start)) words' room' e refl;
  table = λ words s room words' room' n start e. begin_table words s room (Ok (opened.Open n start)) words' room' e refl;
  open_short = λ words s room words' room' n start e. begin_open_short words s room (Ok (opened.Open n start)) words' room' e refl;
  closed_short = λ words s room words' room' n e. begin_closed_short words s room (Ok (opened.Closed n)) words' room' e refl;
}

-- what `answer` tells and prints where it is not refused
pub answer_exact : AnswerExact
answer_exact = record {
  prints = λ words s room room' r e. put_exactly (answer_puts words s room r room' e);
  in_front = λ words s room room' n e. put_bytes (answer_puts words s room (Ok n) room' e) refl;
  short = λ words s room room' n e. rw (put_none (answer_puts words s room (Ok n) room' e) refl).1 (first_short (policy_of words) s);
}

-- what `answer_all` does
pub answer_all_exact : AnswerAllExact
answer_all_exact = record {
  prints = λ words s room room' r e. put_exactly (answer_all_puts words s room r room' e);
  in_front = λ words s room room' n e. put_bytes (answer_all_puts words s room (Ok n) room' e) refl;
  short = λ words s room room' n e. rw (put_none (answer_all_puts words s room (Ok n) room' e) refl).1 (requests_short (policy_of words) s);
}

-- the line of a request is never `R 10`
pub never_ten : NeverTen
never_ten = λ words s room room' n e f. first_apart (policy_of words) s (sym (put_text (answer_puts words s room (Ok n) room' e) refl) ∙ f)

-- nor is any of the lines of all requests
pub never_ten_all : NeverTenAll
never_ten_all = λ words s room room' n e. record {
  lines = put_text (answer_all_puts words s room (Ok n) room' e) refl ∙ one_by_one (policy_of words) s;
  no_ten = first_apart (policy_of words);
}

-- two lent rows are enough for a request that is denied on words that hold a table
two_rows : {words : List ℕ} (q : Request) → Table words → policy.decide words q (Ok decision.Deny) → (e : Result Explanation Refusal) (room why : List (List ℕ)) → 2 ≤ length room
    → policy.explain_numbers words q room e why → TwoSuffice words q e why
two_rows {words} q table decided e room why h c =
    let k : Accepted words q = denied_accepted q table refl decided in
    let v = denied_verdict q table refl decided in
    let i : e ≡ Ok (explanation.Deny (needed words q)) = deny_explained table k v e room h c in
    let s : 1 ≤ length (alternatives_of (request_of q)) = some_alternative q.operation (operation_some k) k.operation in
    let n : needed words q ≡ length (alternatives_of (request_of q)) = (deny_rows_exact words q room why e c i).count in
    record {
      is = i;
      some = omega (arith, s, n);
      few = deny_rows_few (contained (policy_of words)) (policy_of words) (request_of q) v;
      printed = first_deny_row words q room why e c i;
    }

-- so they are for any request that is denied: the words hold a table then
pub two_rows_suffice : TwoRowsSuffice
two_rows_suffice = λ words q d room why e.
    two_rows q (table_of_lem words (held (holds_table words) (policy_of words) (request_of q) ((deny_exact words q (Ok decision.Deny) d).0 refl).0)) d e room why
  where
    held : (b : Bool) (p : Policy) (q : Asks) → None (request_lines b p q) → b ≡ true
    held b p q (past e f) = not-false b e

-- answers_lines: the line that a call prints, and the lines of what is behind the first five bytes, are all lines
pub answers_lines : (words room : List ℕ) (r : Result ℕ Refusal) (bytes : List ℕ) {hand more s : List ℕ} → AtHand (leb 5 (length hand)) hand more s
    → allows.answer words hand room r bytes
    → {n : ℕ} → r ≡ Ok n → take n bytes ++ requests_of (policy_of words) (drop 5 s) ≡ requests_of (policy_of words) s
answers_lines words room r bytes {hand} {more} {s} lent call e =
    rw (put_text (answer_puts words hand room r bytes call) e, hand_line (policy_of words) lent) (first_then (policy_of words) s)

-- pieces_lines: the lines that a call prints of a piece, and the lines of what is behind it, are all lines
pub pieces_lines : (words room : List ℕ) (r : Result ℕ Refusal) (bytes : List ℕ) {hand more s : List ℕ} → AtHand (eqb (length hand % 5) 0) hand more s
    → allows.answer_all words hand room r bytes
    → {n : ℕ} → r ≡ Ok n → take n bytes ++ requests_of (policy_of words) more ≡ requests_of (policy_of words) s
pieces_lines words room r bytes {hand} {more} {s} lent call e =
    rw (put_text (answer_all_puts words hand room r bytes call) e) (hand_lines (policy_of words) lent)

-- so calls one after another print the lines of all requests
all_lines : {words s text : List ℕ} → Lines words s text → text ≡ requests_of (policy_of words) s
unfolding requests_of
all_lines none = refl
all_lines {words} (then {s = s} lent room bytes n call {text = text} l) =
    rw (all_lines l) (answers_lines words room (Ok n) bytes lent call refl)
all_lines {words} (all_then {s = s} lent room bytes n call {text = text} l) =
    rw (all_lines l) (pieces_lines words room (Ok n) bytes lent call refl)

-- Such calls there are, on any words that hold a table and over any bytes.
module _ (words : List ℕ) (table : holds_table words ≡ true) where
  -- one more call in front
  one_more : (s : List ℕ) → Lines words (drop 5 s) (requests_of (policy_of words) (drop 5 s)) → Lines words s (requests_of (policy_of words) s)
  unfolding answering answers.told answer kept
  one_more s l =
      let p = policy_of words in
      let room : List ℕ = replicate 64 0 in
      let lent : AtHand (leb 5 (length s)) s [] s = record { parts = sym (append-nil s); enough = inr refl } in
      let call : allows.answer words s room (Ok (length (first_line p s))) (over (first_line p s) room) = rw table in
      let e : take (length (first_line p s)) (over (first_line p s) room) ++ requests_of p (drop 5 s) ≡ requests_of p s =
      answers_lines words room (Ok (length (first_line p s))) (over (first_line p s) room) lent call refl in
      rw e at (then lent room (over (first_line p s) room) (length (first_line p s)) call l)

  -- call after call, five bytes at a time
  each_line : (s : List ℕ) → Lines words s (requests_of (policy_of words) s)
  unfolding requests_of
  each_line [] = none
  each_line (a ∷ []) = one_more (a ∷ []) none
  each_line (a ∷ b ∷ []) = one_more (a ∷ b ∷ []) none
  each_line (a ∷ b ∷ c ∷ []) = one_more (a ∷ b ∷ c ∷ []) none
  each_line (a ∷ b ∷ c ∷ d ∷ []) = one_more (a ∷ b ∷ c ∷ d ∷ []) none
  each_line (a ∷ b ∷ c ∷ d ∷ e ∷ more) = one_more (a ∷ b ∷ c ∷ d ∷ e ∷ more) (each_line more)

-- calls of `answer` and `answer_all`, one after another, print the lines of all requests
pub lines_are : LinesAre
lines_are = λ words s text l. all_lines l

-- such calls there are
pub lines_exist : LinesExist
lines_exist = each_line

-- The whole: any input, of which the bytes at hand are all or hold the length and the image; any words of the published length; any room of at least
-- 64 bytes.
module _ (words room : List ℕ) (fits : length words ≡ word_count) (wide : line_room ≤ length room) {hand more s : List ℕ}
    (lent : AtHand (not (is_short hand)) hand more s) (r : Result Opened Refusal) (words' bytes' : List ℕ) (call : allows.begin words hand room r words' bytes') where
  -- no line holds
  not_refused : Begins words hand room r words' bytes'
  not_refused = begin_none words hand room r words' bytes' call (past (ap not (eq-eqb (length words) word_count fits)) (past (le-ltb (length room) line_room wide) end))

  -- the image is refused
  refused_prints : {k : ℕ} → image_answer hand words ≡ refused k → Prints s r words' bytes'
  unfolding begun head_line answers.told begun_by
  refused_prints {k} e =
      let h : List ℕ = line L (k ∷ []) in
      let rr : r ≡ Ok (opened.Closed (length h)) = one_opened r (Ok (opened.Closed (length h))) (rw e at not_refused.tells) in
      let bb : bytes' ≡ h ++ drop (length h) room = rw e at not_refused.room_is in
      rw (rr, bb) (all_printed (desk_refused words fits lent e ∙ sym (take-append_seam h (drop (length h) room))))

  -- the image is accepted
  accepted_prints : {made : List ℕ} → image_answer hand words ≡ accepted made → Prints s r words' bytes'
  unfolding begun head_line words_in answers.told begun_by
  accepted_prints {made} e =
      let h : List ℕ = counts_line (policy_of made) in
      let start : ℕ = 2 + image_length hand in
      let rr : r ≡ Ok (opened.Open (length h) start) = one_opened r (Ok (opened.Open (length h) start)) (rw e at not_refused.tells) in
      let ww : words' ≡ made = rw e at not_refused.words_are in
      let bb : bytes' ≡ h ++ drop (length h) room = rw e at not_refused.room_is in
      let d = desk_accepted words fits lent e in
      let first : desk s ≡ take (length h) (h ++ drop (length h) room) ++ requests_of (policy_of made) (drop start s) =
      rw (take-append_seam h (drop (length h) room)) d.1 in
      rw (rr, ww, bb) (lines_follow d.0 first (λ text l. first ∙ ap (λ (m : List ℕ). take (length h) (h ++ drop (length h) room) ++ m) (sym (all_lines l))))

  -- refused or accepted
  whole_printed : Prints s r words' bytes'
  whole_printed = go (image_answer hand words) refl
    where
      go : (a : Answer (List ℕ)) → image_answer hand words ≡ a → Prints s r words' bytes'
      go (refused k) e = refused_prints e
      go (accepted made) e = accepted_prints e

-- what `begin` and then `answer` and `answer_all`, call by call, print is the output that 01 gives for the input
pub desk_prints : DeskPrints
desk_prints = λ words room fits wide hand more s lent r words' room' call. whole_printed words room fits wide lent r words' room' call
