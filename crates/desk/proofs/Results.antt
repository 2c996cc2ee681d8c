-- What holds of any result of `answer`, `answer_all` and `begin` that its contract allows.
-- Assumes nothing.
use mathlib.Core.Path.{◌≡◌, refl, sym, ap, ◌∙◌}
use mathlib.Core.Bool.{true}
use mathlib.Core.List.{List, ◌++◌}
use mathlib.Core.Logic.{◌↔◌}
use Prim.Native.Nat.{ℕ, ◌+◌, ◌≤◌}
use borrow.Author.Tests.{eqb-true, not-false}
use lib.Dec.{eqb}
use lib.ListN.{length, take, drop}
use lib.Seq.{take-append_seam}
use Rattle.model.specs.Refusal.{Line, First, None, past, Answer, refused, accepted, answer}
use Rattle.model.specs.Calls.{Saving, kept, over}
use Rattle.model.specs.Desk.{requests_of}
use Rattle.model.proofs.Refusals.{first_refused, none_accepted, refused_first, accepted_none}
use Rattle.table.specs.Layout.{word_count}
use Rattle.table.specs.View.{holds_table, policy_of}
use Rattle.table.proofs.Outcomes.{never}
use Rattle.policy.specs.Claims.{Refuses}
use Rattle.std.specs.Prelude.{Result, Ok}
use Rattle.answer.specs.declared.Refusal.{Refusal}
use Rattle.answer.specs.Answers as answers
use Rattle.answer.specs.Answers.{IsRefused}
use Rattle.answer.proofs.Told.{one_told, refused_told, told_refused}
use Rattle.desk.specs.declared.Opened.{Opened}
use Rattle.desk.specs.declared.Opened.TheVariants as opened
use Rattle.desk.specs.Printing.{first_line, answer_lines, printing, answering, answer_all_lines, answering_all, told, left, image_length, image_answer, Begun, requests_follow, nothing_more, begun_by, head_line, begun, words_in, begin_lines, Beginning, beginning, told_begun}
use Rattle.desk.specs.Allows as allows
use Rattle.desk.specs.Claims.{Begins}
use Rattle.desk.proofs.Reading.{enough}
use Rattle.desk.proofs.Lengths.{head_short}
use Rattle.desk.proofs.Outputs.{accepted_whole, accepted_table}

-- a result of `answer` or `answer_all` is known by what it says
pub one_printed : (r s : Result ℕ Refusal) → told r ≡ told s → r ≡ s
one_printed r s e = one_told (λ n. n) (λ x y z. z) r s e

-- what was begun is known by what is told of it
one_begun : (r s : Opened) → begun_by r ≡ begun_by s → r ≡ s
unfolding begun_by
one_begun (opened.Open m i) (opened.Open n j) e = let y : m ≡ n = cc in let z : i ≡ j = cc in rw (y, z)
one_begun (opened.Open m i) (opened.Closed n) e = never (cc)
one_begun (opened.Closed m) (opened.Open n j) e = never (cc)
one_begun (opened.Closed m) (opened.Closed n) e = let z : m ≡ n = cc in ap opened.Closed z

-- so is a result of `begin`
pub one_opened : (r s : Result Opened Refusal) → told_begun r ≡ told_begun s → r ≡ s
one_opened r s e = one_told begun_by one_begun r s e

-- A call prints a text in front of the lent bytes, unless a line refuses it: its result, and the bytes after it.
pub record Puts (ls : List Line) (text room : List ℕ) (r : Result ℕ Refusal) (bytes : List ℕ) : Type 0 where
  pub call : left r bytes ≡ printing ls text room

-- so does `answer`
pub answer_puts : (words s room : List ℕ) (r : Result ℕ Refusal) (bytes : List ℕ) → allows.answer words s room r bytes
    → Puts (answer_lines words room) (first_line (policy_of words) s) room r bytes
unfolding answering
answer_puts words s room r bytes e = record { call = e }

-- so does `answer_all`
pub answer_all_puts : (words s room : List ℕ) (r : Result ℕ Refusal) (bytes : List ℕ) → allows.answer_all words s room r bytes
    → Puts (answer_all_lines words s room) (requests_of (policy_of words) s) room r bytes
unfolding answering_all
answer_all_puts words s room r bytes e = record { call = e }

-- What such a call says and leaves.
module _ {ls : List Line} {text room : List ℕ} {r : Result ℕ Refusal} {bytes : List ℕ} (put : Puts ls text room r bytes) where
  -- what it says
  said : told r ≡ answer ls (length text)
  said = ap (λ (b : Saving). b.answers) put.call

  -- what it leaves
  kept_as : bytes ≡ kept (answer ls (length text)) (over text room) room
  kept_as = ap (λ (b : Saving). b.leaves) put.call

  -- "each is given exactly when its line holds and none before it does"
  given_exactly : (n : ℕ) → IsRefused r n ↔ First n ls
  given_exactly n = (
    λ e. refused_first (length text) ls (sym said ∙ told_refused (λ n. n) e),
    λ f. refused_told (λ n. n) r (said ∙ first_refused (length text) f),
  )

  -- and "A refused call .. writes nothing."
  pub put_refused : Refuses ls r (bytes ≡ room)
  unfolding kept
  put_refused = record {
    exactly = given_exactly;
    untouched = λ n e. kept_as ∙ ap (λ (a : Answer ℕ). kept a (over text room) room) (first_refused (length text) ((given_exactly n).0 e));
  }

  -- where it prints no line holds, and the number is the length of the text
  pub put_none : {n : ℕ} → r ≡ Ok n → None ls × (n ≡ length text)
  unfolding answers.told
  put_none e = accepted_none (length text) ls (sym said ∙ ap told e)

  -- it prints exactly if no line holds, and tells how many bytes
  pub put_exactly : (n : ℕ) → (r ≡ Ok n) ↔ (None ls × (n ≡ length text))
  unfolding answers.told
  put_exactly n = (put_none, λ p. rw p.1 (one_printed r (Ok (length text)) (said ∙ none_accepted (length text) p.0)))

  -- the text stands in front, and the other bytes are as they were
  pub put_bytes : {n : ℕ} → r ≡ Ok n → bytes ≡ text ++ drop (length text) room
  unfolding kept
  put_bytes e = kept_as ∙ ap (λ (a : Answer ℕ). kept a (over text room) room) (none_accepted (length text) (put_none e).0)

  -- what was printed is the text
  pub put_text : {n : ℕ} → r ≡ Ok n → take n bytes ≡ text
  put_text e = rw (put_bytes e, (put_none e).1) (take-append_seam text (drop (length text) room))

-- `begin`: any bytes, any words, any room; the result, the words and the bytes after it.
module _ (words s room : List ℕ) (r : Result Opened Refusal) (words' bytes' : List ℕ) (call : allows.begin words s room r words' bytes') where
  -- what the image is answered
  abbrev image : Answer (List ℕ)
  image = image_answer s words

  -- what it says
  said_begun : told_begun r ≡ answer (begin_lines words room) (begun s image)
  unfolding beginning
  said_begun = ap (λ (b : Beginning). b.answers) call

  -- the words that it leaves
  words_as : words' ≡ kept (answer (begin_lines words room) (begun s image)) (words_in image words) words
  unfolding beginning
  words_as = ap (λ (b : Beginning). b.words) call

  -- the bytes that it leaves
  bytes_as : bytes' ≡ kept (answer (begin_lines words room) (begun s image)) (over (head_line image) room) room
  unfolding beginning
  bytes_as = ap (λ (b : Beginning). b.bytes) call

  -- "each is given exactly when its line holds and none before it does"
  pub begin_refused : (n : ℕ) → IsRefused r n ↔ First n (begin_lines words room)
  begin_refused n = (
    λ e. refused_first (begun s image) (begin_lines words room) (sym said_begun ∙ told_refused begun_by e),
    λ f. refused_told begun_by r (said_begun ∙ first_refused (begun s image) f),
  )

  -- "A refused call .. writes nothing.": no word and no byte
  pub begin_leaves : {n : ℕ} → IsRefused r n → (words' ≡ words) × (bytes' ≡ room)
  unfolding kept
  begin_leaves {n} e =
      let f = first_refused (begun s image) ((begin_refused n).0 e) in (
        words_as ∙ ap (λ (a : Answer Begun). kept a (words_in image words) words) f,
        bytes_as ∙ ap (λ (a : Answer Begun). kept a (over (head_line image) room) room) f,
      )

  -- where no line holds: what is told, the words and the bytes
  pub begin_none : None (begin_lines words room) → Begins words s room r words' bytes'
  unfolding kept
  begin_none f =
      let a = none_accepted (begun s image) f in
      record {
        tells = said_begun ∙ a;
        words_are = words_as ∙ ap (λ (a : Answer Begun). kept a (words_in image words) words) a;
        room_is = bytes_as ∙ ap (λ (a : Answer Begun). kept a (over (head_line image) room) room) a;
      }

  -- where the image was accepted no line holds
  pub begin_open_none : {n start : ℕ} → r ≡ Ok (opened.Open n start) → None (begin_lines words room)
  unfolding answers.told begun_by
  begin_open_none e = (accepted_none (begun s image) (begin_lines words room) (sym said_begun ∙ ap told_begun e)).0

  -- nor where it was refused
  pub begin_closed_none : {n : ℕ} → r ≡ Ok (opened.Closed n) → None (begin_lines words room)
  unfolding answers.told begun_by
  begin_closed_none e = (accepted_none (begun s image) (begin_lines words room) (sym said_begun ∙ ap told_begun e)).0

  -- an accepted image: the words that it became, the line's length, and where the requests start
  record Accepts (n start : ℕ) : Type 0 where
    pub made : List ℕ
    pub image_is : image ≡ accepted made
    pub length_is : n ≡ length (head_line (accepted made))
    pub start_is : start ≡ 2 + image_length s

  -- an image that was accepted is one
  open_accepts : {n start : ℕ} → r ≡ Ok (opened.Open n start) → Accepts n start
  unfolding begun answers.told begun_by
  open_accepts {n} {start} e = go image refl (rw e at (begin_none (begin_open_none e)).tells)
    where
      go : (a : Answer (List ℕ)) → image ≡ a → accepted (requests_follow n start) ≡ accepted (begun s image) → Accepts n start
      go (refused k) i t = let z : accepted (requests_follow n start) ≡ accepted (begun s (refused k)) = rw i at t in never (cc)
      go (accepted made) i t =
          let z : accepted (requests_follow n start) ≡ accepted (begun s (accepted made)) = rw i at t in
          record { made = made; image_is = i; length_is = cc; start_is = cc }

  -- an accepted image's line has at most 57 bytes
  pub begin_open_short : {n start : ℕ} → r ≡ Ok (opened.Open n start) → n ≤ 57
  begin_open_short e = let a = open_accepts e in rw a.length_is (head_short (accepted a.made))

  -- the requests start behind the length and the image, which are there
  pub begin_start : {n start : ℕ} → r ≡ Ok (opened.Open n start) → (start ≡ 2 + image_length s) × (start ≤ length s)
  begin_start e = let a = open_accepts e in (a.start_is, rw a.start_is (enough s (accepted_whole s words a.image_is)).1)

  -- a refused image's line has at most 57 bytes
  pub begin_closed_short : {n : ℕ} → r ≡ Ok (opened.Closed n) → n ≤ 57
  unfolding begun answers.told begun_by
  begin_closed_short {n} e = go image refl (rw e at (begin_none (begin_closed_none e)).tells)
    where
      go : (a : Answer (List ℕ)) → image ≡ a → accepted (nothing_more n) ≡ accepted (begun s image) → n ≤ 57
      go (refused k) i t =
          let z : accepted (nothing_more n) ≡ accepted (begun s (refused k)) = rw i at t in
          let q : n ≡ length (head_line (refused k)) = cc in
          rw q (head_short (refused k))
      go (accepted made) i t = let z : accepted (nothing_more n) ≡ accepted (begun s (accepted made)) = rw i at t in never (cc)

  -- the words of an accepted image hold a table
  pub begin_table : {n start : ℕ} → r ≡ Ok (opened.Open n start) → holds_table words' ≡ true
  unfolding words_in
  begin_table e =
      let a = open_accepts e in
      let w : words' ≡ a.made = rw a.image_is at (begin_none (begin_open_none e)).words_are in
      rw w (accepted_table s words (lengths_fit (begin_open_none e)) a.image_is)
    where
      lengths_fit : None (begin_lines words room) → length words ≡ word_count
      lengths_fit (past h f) = eqb-true (length words) word_count (not-false (eqb (length words) word_count) h)
