-- What load and save answer and leave, every word and byte.
-- Assumes nothing.
use Rattle.std.specs.Prelude.{◌≡◌, Result, cond, List, [], ◌∷◌, ℕ, ◌-◌, eqb, ltb, length, drop, replicate}
use Rattle.model.specs.Refusal.{◌when◌, Answer, answer, refusal}
use Rattle.model.specs.Image.{policy_in, image_lines, load_lines, breaks_rule, names_wrong}
use Rattle.model.specs.Calls.{Saving, kept}
use Rattle.answer.specs.declared.Refusal.{Refusal}
use Rattle.answer.specs.Answers as answers
use Rattle.table.specs.Layout.{word_count, association_count, prohibition_count, association_start, prohibition_start}
use Rattle.table.specs.View.{holds_table, policy_of}
use Rattle.table.specs.Facts.{Table}
use Rattle.table.specs.Answers.{Left}
use Rattle.unpack.specs.Words.{table_of}

-- Load: refused as 01's lines say, the words as they were; else every word is the table's of the policy that the image spells
unfoldable pub load_table : (image words : List ℕ) → Left
load_table image words =
    let made = answer (load_lines (eqb (length words) word_count) image) (table_of (policy_in image)) in
    record { answers = made; words = kept made (table_of (policy_in image)) words }

-- what an image is refused with by the words that its records were laid into: 13, 14, or 0 for neither. Words that hold no table are 13: the
-- assignments do not rise.
unfoldable pub table_refusal : (words : List ℕ) → ℕ
table_refusal words =
    cond (holds_table words) (refusal ((13 when breaks_rule (policy_of words)) ∷ (14 when names_wrong (policy_of words)) ∷ [])) 13

-- where the words of a table end: behind its last prohibition, or, where there is none, behind its last association
unfoldable pub table_end : (words : List ℕ) → ℕ
table_end words =
    cond (ltb 0 (prohibition_count words)) (prohibition_start (prohibition_count words)) (association_start (association_count words))

-- the words hold a table, and each word behind its end is 0
pub record Ended (words : List ℕ) : Type 0 where
  pub table : Table words
  pub rest : drop (table_end words) words ≡ replicate (8192 - table_end words) 0

-- an image was read: its refusal number, 0 where it is accepted, and then the words that it is, with zeros behind their end
pub record Read (image : List ℕ) (number : ℕ) (words : List ℕ) : Type 0 where
  pub number_is : number ≡ refusal (image_lines image)
  pub words_are : number ≡ 0 → words ≡ table_of (policy_in image)
  pub words_end : number ≡ 0 → Ended words

-- `Ok`: saved, in so many bytes; `Err`: the refusal's number
abbrev pub saved : Result ℕ Refusal → Answer ℕ
saved r = answers.told (λ n. n) r

-- what a call of save answers, and the bytes that it leaves
abbrev pub left : Result ℕ Refusal → (bytes : List ℕ) → Saving
left r bytes = record { answers = saved r; leaves = bytes }
