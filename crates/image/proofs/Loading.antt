-- What load answers and leaves, return by return.
-- Assumes nothing.
use mathlib.Core.Path.{◌≡◌, refl, sym, ap, ◌∙◌}
use mathlib.Core.Bool.{not}
use mathlib.Core.List.{List}
use Prim.Native.Nat.{ℕ, ◌≤◌, ◌<◌}
use native.Mathlib.Omega.{arith}
use borrow.Author.Tests.{eq-eqb, ne_eqb}
use lib.Dec.{eqb}
use lib.ListN.{length}
use Rattle.model.specs.Lists.{all_of}
use Rattle.model.specs.Refusal.{next, past, refused, accepted, answer, refusal}
use Rattle.model.specs.Image.{policy_in, image_lines, load_lines}
use Rattle.model.specs.Calls.{kept}
use Rattle.model.proofs.Refusals.{first_refused, none_accepted, refusal_none, refusal_first}
use Rattle.std.specs.Prelude.{Ok, Err}
use Rattle.answer.specs.declared.Refusal.{Refusal}
use Rattle.answer.specs.declared.Refusal.TheVariants.{NoTable}
use Rattle.answer.specs.Answers.{number_of, told}
use Rattle.answer.proofs.Told.{number_low}
use Rattle.table.specs.Answers.{left}
use Rattle.unpack.specs.Words.{table_of}
use Rattle.image.specs.Answers.{load_table, Read, Ended}

-- another length
pub other_length : (s words : List ℕ) → (length words ≡ 8192 → ⊥) → left (Err NoTable) words ≡ load_table s words
unfolding load_table told answer kept
other_length s words h = rw (ne_eqb (length words) 8192 h)

-- what the image's number makes of the answer, for words of the right length
refused_as : (s words : List ℕ) {n : ℕ} → length words ≡ 8192 → n ≡ refusal (image_lines s) → 0 < n → answer (load_lines (eqb (length words) 8192) s) (table_of (policy_in s)) ≡ refused n
refused_as s words e r h =
    first_refused (table_of (policy_in s)) (next (ap not (eq-eqb (length words) 8192 e)) (refusal_first (image_lines s) (λ z. omega arith) (sym r)))

accepted_as : (s words : List ℕ) {n : ℕ} → length words ≡ 8192 → n ≡ refusal (image_lines s) → n ≤ 0 → answer (load_lines (eqb (length words) 8192) s) (table_of (policy_in s)) ≡ accepted (table_of (policy_in s))
unfolding all_of
accepted_as s words e r h =
    none_accepted (table_of (policy_in s)) (past (ap not (eq-eqb (length words) 8192 e)) (refusal_none (image_lines s) refl (sym r ∙ zero_is h)))
  where
    zero_is : {n : ℕ} → n ≤ 0 → n ≡ 0
    zero_is h = omega arith

-- the image is refused
pub image_refused : (s words fresh : List ℕ) (x : Refusal) → length words ≡ 8192 → Read s (number_of x) fresh → left (Err x) words ≡ load_table s words
unfolding load_table told kept
image_refused s words fresh x e r = rw (refused_as s words e r.number_is (number_low x))

-- an accepted image's words hold a table with zeros behind its end
pub image_ended : (s fresh : List ℕ) → Read s 0 fresh → Ended fresh
image_ended s fresh r = r.words_end refl

-- the image is accepted
pub image_stored : (s words words' fresh : List ℕ) → length words ≡ 8192 → Read s 0 fresh → words' ≡ fresh → left (Ok tt) words' ≡ load_table s words
unfolding load_table told kept
image_stored s words words' fresh e r w =
    let k : words' ≡ table_of (policy_in s) = w ∙ r.words_are refl in
    rw (accepted_as s words e r.number_is (omega arith), k)
