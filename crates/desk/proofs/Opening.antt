-- What the first line is, return by return.
-- Assumes nothing.
use mathlib.Core.Path.{◌≡◌, refl, sym, ap, ◌∙◌}
use mathlib.Core.Bool.{true}
use mathlib.Core.List.{List, [], ◌∷◌}
use Prim.Native.Nat.{ℕ, ◌-◌, ◌≤◌, ◌<◌}
use native.Mathlib.Omega.{arith}
use borrow.Author.Tests.{eq-eqb, ne_eqb, lt-ltb, le-ltb}
use lib.ListN.{length, take, drop}
use Rattle.model.specs.Refusal.{refused, accepted, answer}
use Rattle.model.specs.Calls.{kept}
use Rattle.model.specs.Desk.{line, counts_line}
use Rattle.std.specs.Prelude.{Result, Ok, Err}
use Rattle.answer.specs.declared.Refusal.{Refusal}
use Rattle.answer.specs.declared.Refusal.TheVariants.{NoTable, NoRoom}
use Rattle.answer.specs.Answers as answers
use Rattle.answer.specs.Answers.{number_of}
use Rattle.table.specs.Layout.{assignment_count, association_count, prohibition_count}
use Rattle.table.specs.View.{policy_of}
use Rattle.table.specs.Facts.{Table, AtMost}
use Rattle.table.specs.Answers.{Left, left as left_words, told as tells}
use Rattle.table.proofs.Counted.{assignments_long, associations_long, prohibitions_long}
use Rattle.table.proofs.Test.{table_of_lem}
use Rattle.image.specs.Answers.{load_table}
use Rattle.image.proofs.Theorems.{load_table_lem, load_leaves}
use Rattle.lines.specs.Typing.{Typed}
use Rattle.desk.specs.declared.Opened.TheVariants.{Open, Closed}
use Rattle.desk.specs.Printing.{image_length, is_short, wanted_bytes, image_answer, head_line, begun, words_in, beginning, begun_by}
use Rattle.desk.specs.Allows as allows
use Rattle.desk.proofs.Reading.{short_wanted, wanted_there}
use Rattle.desk.proofs.Front.{in_front}

-- "`P` and the five counts in image order": what the words say is how many records each group of the policy has
pub counts_put : (mem : List ℕ) {a b c d e : ℕ} → AtMost (length (policy_of mem).elements) 511 a → b ≡ assignment_count mem → c ≡ association_count mem
    → d ≡ prohibition_count mem → AtMost (length (policy_of mem).processes) 255 e
    → {out out' : List ℕ} {n : ℕ} → Typed (line 80 (a ∷ b ∷ c ∷ d ∷ e ∷ [])) 0 out out' n → Typed (counts_line (policy_of mem)) 0 out out' n
unfolding counts_line
counts_put mem x y z u v w =
    rw (← x.is, assignments_long mem, ← y, associations_long mem, ← z, prohibitions_long mem, ← u, ← v.is) w

-- the words of an image that was accepted hold a table
pub loaded_table : (image words words' : List ℕ) {r : Result (Unit {0}) Refusal} → r ≡ Ok tt → left_words r words' ≡ load_table image words → Table words'
loaded_table image words words' {r} d e = table_of_lem words' (load_table_lem image words r words' e d)

-- The call that begins, on any words, any bytes and any room.
module _ (s words out : List ℕ) where
  -- the words are of another length
  pub other_length : (length words ≡ 8192 → ⊥) → allows.begin words s out (Err NoTable) words out
  unfolding beginning answers.told answer kept
  other_length h = rw (ne_eqb (length words) 8192 h)

  module _ (e : length words ≡ 8192) where
    -- the lent bytes are too few
    pub no_room_begun : length out < 64 → allows.begin words s out (Err NoRoom) words out
    unfolding beginning answers.told answer kept
    no_room_begun h = rw (eq-eqb (length words) 8192 e, lt-ltb (length out) 64 h)

    module _ (h : 64 ≤ length out) where
      -- the image is refused, with its number: one line, and the words as they were
      closed_printed : {k : ℕ} → image_answer s words ≡ refused k → {out' : List ℕ} {n : ℕ} → Typed (line 76 (k ∷ [])) 0 out out' n
          → allows.begin words s out (Ok (Closed n)) words out'
      unfolding beginning answers.told begun_by answer kept head_line begun words_in
      closed_printed a w = rw (eq-eqb (length words) 8192 e, le-ltb (length out) 64 h, a, (in_front w).0, (in_front w).1)

      -- "too few bytes for length or image is `L 12`, of any form"
      pub short_printed : {k : ℕ} → k ≡ wanted_bytes s → length s < k → {out' : List ℕ} {n : ℕ} → Typed (line 76 (12 ∷ [])) 0 out out' n
          → allows.begin words s out (Ok (Closed n)) words out'
      unfolding image_answer
      short_printed {k} m l w = let f : is_short s ≡ true = short_wanted s ∙ rw (sym m) (lt-ltb (length s) k l) in closed_printed (rw f) w

      module _ {k : ℕ} (m : k ≡ wanted_bytes s) (l : k ≤ length s) where
        -- what the image is answered: as load answers
        answered : (r : Result (Unit {0}) Refusal) {words' : List ℕ} → left_words r words' ≡ load_table (take (k - 2) (drop 2 s)) words → tells r words' ≡ image_answer s words
        unfolding image_answer
        answered r c =
            let z : k - 2 ≡ image_length s = omega (arith, (wanted_there s m l).1) in
            rw ((wanted_there s m l).0, ← z) (ap (λ (b : Left). b.answers) c)

        -- "An image refused is `L number`"
        pub refused_printed : (x : Refusal) {k' : ℕ} → k' ≡ number_of x → {words' : List ℕ} → left_words (Err x) words' ≡ load_table (take (k - 2) (drop 2 s)) words
            → {out' : List ℕ} {n' : ℕ} → Typed (line 76 (k' ∷ [])) 0 out out' n' → allows.begin words s out (Ok (Closed n')) words' out'
        unfolding answers.told
        refused_printed x e {words'} c w =
            let y : tells (Err x) words' ≡ image_answer s words = answered (Err x) c in
            let same : words' ≡ words = load_leaves (take (k - 2) (drop 2 s)) words (Err x) words' c (record { why = x; is = refl; its_number = refl }) in
            rw same (closed_printed (sym y ∙ ap refused (sym e)) w)

        -- "It prints `P` and the five counts in image order", and the requests start behind the image
        pub open_printed : {words' : List ℕ} → left_words (Ok tt) words' ≡ load_table (take (k - 2) (drop 2 s)) words
            → {out' : List ℕ} {n : ℕ} → Typed (counts_line (policy_of words')) 0 out out' n → allows.begin words s out (Ok (Open n k)) words' out'
        unfolding beginning answers.told begun_by answer kept head_line begun words_in
        open_printed {words'} c w =
            let a : image_answer s words ≡ accepted words' = sym (answered (Ok tt) c) in
            rw (eq-eqb (length words) 8192 e, le-ltb (length out) 64 h, a, (in_front w).0, (in_front w).1, (wanted_there s m l).1)
