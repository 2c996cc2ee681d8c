-- What holds of every result that the contracts of load and save allow.
-- Assumes nothing.
use mathlib.Core.Path.{◌≡◌, sym, ap, subst, ◌∙◌}
use mathlib.Core.Bool.{true}
use mathlib.Core.List.{List, ◌++◌}
use Prim.Native.Nat.{ℕ}
use lib.Dec.{eqb}
use lib.ListN.{length, drop}
use Rattle.model.specs.Sound.{Sound}
use Rattle.model.specs.Refusal.{Line, First, None, past, Answer, accepted, answer}
use Rattle.model.specs.Image.{policy_in, image_of, load_lines, read_image, save_lines}
use Rattle.model.specs.Calls.{Saving, kept, load, save}
use Rattle.model.proofs.Refusals.{Judged, by, clear, judged, first_refused, none_accepted, refused_first, accepted_none}
use Rattle.model.proofs.Image.Images.{accepted_is_sound}
use Rattle.std.specs.Prelude.{Result, Ok}
use Rattle.answer.specs.declared.Refusal.{Refusal}
use Rattle.answer.specs.Answers as result
use Rattle.answer.specs.Answers.{IsRefused}
use Rattle.answer.proofs.Told.{one_told, refused_told, told_refused}
use Rattle.table.specs.Layout.{word_count}
use Rattle.table.specs.View.{holds_table, policy_of, memory}
use Rattle.table.specs.Answers.{told, Left, left}
use Rattle.table.proofs.Outcomes.{one_outcome, one_left}
use Rattle.unpack.specs.Words.{table_of}
use Rattle.unpack.proofs.StowedSound.{sound_table}
use Rattle.image.specs.Answers.{load_table, saved, left as left_bytes}

-- Load: an image, the words before, the answer and the words after it.
module _ (image words : List ℕ) (r : Result (Unit {0}) Refusal) (words' : List ℕ) (call : left r words' ≡ load_table image words) where
  -- the lines of this call
  abbrev lines : List Line
  lines = load_lines (eqb (length words) word_count) image

  -- its answer
  answers : told r words' ≡ answer lines (table_of (policy_in image))
  unfolding load_table
  answers = ap (λ (b : Left). b.answers) call

  -- its words
  leaves : words' ≡ kept (answer lines (table_of (policy_in image))) (table_of (policy_in image)) words
  unfolding load_table
  leaves = ap (λ (b : Left). b.words) call

  -- "each is given exactly when its line holds and none before it does"
  pub load_refuses : {n : ℕ} → First n lines → IsRefused r n
  load_refuses {n} f = refused_told (λ _. words') r (answers ∙ first_refused (table_of (policy_in image)) f)

  pub load_refused : {n : ℕ} → IsRefused r n → First n lines
  load_refused {n} e = refused_first (table_of (policy_in image)) lines (sym answers ∙ told_refused (λ _. words') e)

  -- it is done exactly if none holds
  pub load_done : None lines → r ≡ Ok tt
  unfolding result.told
  load_done f = one_outcome r (Ok tt) words' (table_of (policy_in image)) (answers ∙ none_accepted (table_of (policy_in image)) f)

  pub load_none : r ≡ Ok tt → None lines
  unfolding result.told
  load_none e = (accepted_none (table_of (policy_in image)) lines (sym answers ∙ ap (λ (z : Result (Unit {0}) Refusal). told z words') e)).0

  -- "A refused call .. writes nothing."
  pub load_leaves : {n : ℕ} → IsRefused r n → words' ≡ words
  unfolding kept
  load_leaves {n} e = leaves ∙ ap (λ (a : Answer (List ℕ)). kept a (table_of (policy_in image)) words) (first_refused (table_of (policy_in image)) (load_refused e))

  -- an accepted image is read as its policy
  read_as : r ≡ Ok tt → read_image image ≡ accepted (policy_in image)
  unfolding read_image
  read_as e = go (load_none e)
    where
      go : None lines → read_image image ≡ accepted (policy_in image)
      go (past h f) = none_accepted (policy_in image) f

  -- every word is that of the table of the policy that the image spells
  pub load_words : r ≡ Ok tt → words' ≡ table_of (policy_in image)
  unfolding kept
  load_words e =
      leaves ∙ ap (λ (a : Answer (List ℕ)). kept a (table_of (policy_in image)) words) (none_accepted (table_of (policy_in image)) (load_none e))

  -- the policy of an accepted image is sound
  spelled_sound : r ≡ Ok tt → Sound (policy_in image)
  spelled_sound e = accepted_is_sound image (policy_in image) (read_as e)

  -- the words hold a table, which is the policy that the image is read as, and sound
  pub load_table_lem : r ≡ Ok tt → holds_table words' ≡ true
  load_table_lem e = ap holds_table (load_words e) ∙ (sound_table (policy_in image) (spelled_sound e)).0

  pub load_policy : r ≡ Ok tt → policy_of words' ≡ policy_in image
  load_policy e = ap policy_of (load_words e) ∙ (sound_table (policy_in image) (spelled_sound e)).1

  pub load_reads : r ≡ Ok tt → read_image image ≡ accepted (policy_of words')
  load_reads e = read_as e ∙ ap accepted (sym (load_policy e))

  pub load_sound : r ≡ Ok tt → Sound (policy_of words')
  load_sound e = subst Sound (sym (load_policy e)) (spelled_sound e)

  -- the call is model's load, whole
  pub load_as_model : record { answers = told r (policy_of words'); table = policy_of words' } ≡ load (eqb (length words) word_count) image (policy_of words)
  unfolding load result.told kept
  load_as_model = go (judged lines)
    where
      go : Judged lines → record { answers = told r (policy_of words'); table = policy_of words' } ≡ load (eqb (length words) word_count) image (policy_of words)
      go (by {n = n} f) = rw ((load_refuses f).is, (load_refuses f).its_number, load_leaves (load_refuses f), first_refused (policy_in image) f)
      go (clear f) = rw (load_done f, load_policy (load_done f), none_accepted (policy_in image) f)

-- load has one answer, and leaves one memory
pub load_unique : (image words : List ℕ) {r s : Result (Unit {0}) Refusal} {l m : List ℕ} → left r l ≡ load_table image words → left s m ≡ load_table image words → (r ≡ s) × (l ≡ m)
load_unique image words p q = one_left (p ∙ sym q)

-- a save's answer is known by what it says
pub one_saved : (r s : Result ℕ Refusal) → saved r ≡ saved s → r ≡ s
one_saved r s e = one_told (λ n. n) (λ x y z. z) r s e

-- save has one answer, and leaves the same bytes
pub save_unique : (mem out : List ℕ) {r s : Result ℕ Refusal} {l m : List ℕ} → left_bytes r l ≡ save (memory mem) out → left_bytes s m ≡ save (memory mem) out → (r ≡ s) × (l ≡ m)
save_unique mem out {r} {s} p q =
    (one_saved r s (ap (λ (b : Saving). b.answers) (p ∙ sym q)), ap (λ (b : Saving). b.leaves) (p ∙ sym q))

-- Save: the memory, the lent bytes, the answer and the bytes after it.
module _ (mem out : List ℕ) (r : Result ℕ Refusal) (out' : List ℕ) (call : left_bytes r out' ≡ save (memory mem) out) where
  -- the image
  abbrev image : List ℕ
  image = image_of (policy_of mem)

  -- the lines of this call
  abbrev bounds : List Line
  bounds = save_lines (holds_table mem) (length out) (policy_of mem)

  said : saved r ≡ answer bounds (length image)
  unfolding save
  said = ap (λ (b : Saving). b.answers) call

  kept_as : out' ≡ kept (answer bounds (length image)) (image ++ drop (length image) out) out
  unfolding save
  kept_as = ap (λ (b : Saving). b.leaves) call

  -- "each is given exactly when its line holds and none before it does"
  pub save_refuses : {n : ℕ} → First n bounds → IsRefused r n
  save_refuses {n} f = refused_told (λ n. n) r (said ∙ first_refused (length image) f)

  pub save_refused : {n : ℕ} → IsRefused r n → First n bounds
  save_refused e = refused_first (length image) bounds (sym said ∙ told_refused (λ n. n) e)

  -- "A refused call .. writes nothing."
  pub save_leaves : {n : ℕ} → IsRefused r n → out' ≡ out
  unfolding kept
  save_leaves e = kept_as ∙ ap (λ (a : Answer ℕ). kept a (image ++ drop (length image) out) out) (first_refused (length image) (save_refused e))

  -- it is done exactly if none holds, and says how long the image is
  pub save_done : None bounds → r ≡ Ok (length image)
  unfolding result.told
  save_done f = one_saved r (Ok (length image)) (said ∙ none_accepted (length image) f)

  pub save_none : {n : ℕ} → r ≡ Ok n → None bounds × (n ≡ length image)
  unfolding result.told
  save_none e = accepted_none (length image) bounds (sym said ∙ ap saved e)

  -- "Save writes as many bytes as are needed and no byte beyond."
  pub save_writes : {n : ℕ} → r ≡ Ok n → out' ≡ image ++ drop (length image) out
  unfolding kept
  save_writes e =
      kept_as ∙ ap (λ (a : Answer ℕ). kept a (image ++ drop (length image) out) out) (none_accepted (length image) (save_none e).0)
