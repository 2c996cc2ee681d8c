-- Demand 2, every sound policy is written to its one packed image and read back: what save writes, load reads, and what load accepted, save writes
-- again.
-- Assumes nothing.
use mathlib.Core.Path.{◌≡◌, refl, sym, ap, ◌∙◌}
use mathlib.Core.Bool.{true, not}
use mathlib.Core.List.{List, ◌++◌}
use Prim.Native.Nat.{ℕ, ◌≤◌}
use native.Mathlib.Omega.{arith}
use borrow.Author.Tests.{eq-eqb, le-ltb}
use lib.ListN.{length, take, drop}
use lib.Seq.{take-append_seam, drop-append_seam}
use Rattle.model.specs.Bits.{are_bytes}
use Rattle.model.specs.Sound.{Sound}
use Rattle.model.specs.Refusal.{end, past, accepted}
use Rattle.model.specs.Image.{policy_in, image_of, image_lines, read_image}
use Rattle.model.specs.Calls.{save}
use Rattle.model.proofs.Refusals.{accepted_none}
use Rattle.model.proofs.Image.Images.{policy_read_back, image_written_back, image_unique}
use Rattle.std.specs.Prelude.{Result, Ok}
use Rattle.answer.specs.declared.Refusal.{Refusal}
use Rattle.table.specs.Layout.{word_count}
use Rattle.table.specs.View.{holds_table, policy_of, memory}
use Rattle.table.specs.Answers.{left}
use Rattle.table.proofs.Test.{table_of_lem}
use Rattle.unpack.specs.Words.{table_of}
use Rattle.pack.proofs.Bounded.{bytes_few}
use Rattle.image.specs.Answers.{load_table, left as left_bytes}
use Rattle.image.proofs.Theorems.{load_done, load_words, load_policy, load_table_lem, load_reads, save_none, save_done, save_writes}

-- The table in mem was saved into n bytes.
module _ (mem out : List ℕ) (n : ℕ) (out' : List ℕ) (call : left_bytes (Ok n) out' ≡ save (memory mem) out) where
  -- n is the image's length
  pub saved_length : n ≡ length (image_of (policy_of mem))
  saved_length = (save_none mem out (Ok n) out' call refl).1

  -- the first n bytes are the image of the table's policy
  pub image_of_policy : take n out' ≡ image_of (policy_of mem)
  image_of_policy =
      ap (λ (i : ℕ). take i out') saved_length
      ∙ ap (take (length (image_of (policy_of mem)))) (save_writes mem out (Ok n) out' call refl)
      ∙ take-append_seam (image_of (policy_of mem)) (drop (length (image_of (policy_of mem))) out)

  -- the others are as they were
  pub no_byte_beyond : drop n out' ≡ drop n out
  no_byte_beyond =
      ap (λ (i : ℕ). drop i out') saved_length
      ∙ ap (drop (length (image_of (policy_of mem)))) (save_writes mem out (Ok n) out' call refl)
      ∙ drop-append_seam (image_of (policy_of mem)) (drop (length (image_of (policy_of mem))) out)
      ∙ ap (λ (i : ℕ). drop i out) (sym saved_length)

  -- loading those bytes into any memory of the published length is done, and gives the same policy: every word is known
  module _ (sound : Sound (policy_of mem)) (words : List ℕ) (fits : length words ≡ word_count)
      (r : Result (Unit {0}) Refusal) (words' : List ℕ) (again : left r words' ≡ load_table (take n out') words) where
    read_back : read_image (take n out') ≡ accepted (policy_of mem)
    read_back = ap read_image image_of_policy ∙ policy_read_back (policy_of mem) sound

    pub read_done : r ≡ Ok tt
    unfolding read_image
    read_done =
        load_done (take n out') words r words' again
        (past (ap not (eq-eqb (length words) word_count fits)) (accepted_none (policy_in (take n out')) (image_lines (take n out')) read_back).0)

    pub policy_of_image : policy_of words' ≡ policy_of mem
    unfolding read_image
    policy_of_image =
        load_policy (take n out') words r words' again read_done
        ∙ sym (accepted_none (policy_in (take n out')) (image_lines (take n out')) read_back).1

    pub words_of_image : words' ≡ table_of (policy_of mem)
    words_of_image = load_words (take n out') words r words' again read_done ∙ ap table_of (sym (load_policy (take n out') words r words' again read_done) ∙ policy_of_image)

-- An image, bytes all, was loaded.
module _ (image words words' : List ℕ) (bytes : are_bytes image ≡ true) (call : left (Ok tt) words' ≡ load_table image words) where
  -- the image of its policy is the image
  pub image_again : image_of (policy_of words') ≡ image
  image_again = image_written_back image bytes (policy_of words') (load_reads image words (Ok tt) words' call refl)

  -- "Saving what load accepted gives the same image.": wherever it has room, and no byte beyond
  module _ (out : List ℕ) (room : length image ≤ length out) (r : Result ℕ Refusal) (out' : List ℕ) (again : left_bytes r out' ≡ save (memory words') out) where
    pub saved_again : r ≡ Ok (length image)
    saved_again =
        save_done words' out r out' again
        (past (ap not (load_table_lem image words (Ok tt) words' call refl))
        (past (le-ltb (length out) (length (image_of (policy_of words'))) (let e = ap length image_again in omega arith)) end))
        ∙ ap (λ (i : List ℕ). Ok (length i)) image_again

    pub bytes_again : out' ≡ image ++ drop (length image) out
    bytes_again = save_writes words' out r out' again saved_again ∙ ap (λ (i : List ℕ). i ++ drop (length i) out) image_again

-- two tables of sound policies that were saved as the same bytes are the same policy
pub one_policy : (mem out : List ℕ) (n : ℕ) (out' : List ℕ) → left_bytes (Ok n) out' ≡ save (memory mem) out → Sound (policy_of mem)
    → (mem₂ out₂ : List ℕ) (n₂ : ℕ) (out₂' : List ℕ) → left_bytes (Ok n₂) out₂' ≡ save (memory mem₂) out₂ → Sound (policy_of mem₂)
    → take n out' ≡ take n₂ out₂' → policy_of mem ≡ policy_of mem₂
one_policy mem out n out' call s mem₂ out₂ n₂ out₂' call₂ s₂ e =
    image_unique (policy_of mem) (policy_of mem₂) s s₂ (sym (image_of_policy mem out n out' call) ∙ e ∙ image_of_policy mem₂ out₂ n₂ out₂' call₂)

-- "The longest image is 15,115 bytes.": a table is saved wherever there are as many
pub room_enough : (mem out : List ℕ) (r : Result ℕ Refusal) (out' : List ℕ) → left_bytes r out' ≡ save (memory mem) out → holds_table mem ≡ true → 15115 ≤ length out
    → r ≡ Ok (length (image_of (policy_of mem)))
room_enough mem out r out' call t h =
    save_done mem out r out' call
    (past (ap not t) (past (le-ltb (length out) (length (image_of (policy_of mem))) (let m = bytes_few (table_of_lem mem t) in omega arith)) end))
