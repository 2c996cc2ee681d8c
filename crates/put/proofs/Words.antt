-- The words of a table and the fields that an image writes for them: the same bits.
-- Assumes nothing.
use mathlib.Core.Path.{◌≡◌, refl, sym, ap, ◌∙◌}
use mathlib.Core.Bool.{Bool, true, false, ◌&&◌, and-false}
use mathlib.Core.List.{List, [], ◌++◌, append_assoc, append-nil}
use Prim.Native.Nat.{ℕ, ◌+◌, ◌*◌, ◌/◌, ◌%◌, ◌^◌, ◌≤◌, ◌<◌}
use native.Mathlib.Decide.{dec_lt}
use native.Mathlib.Omega.{arith}
use borrow.Author.Tests.{le-leb, lt-leb}
use lib.Dec.{leb}
use lib.ListN.{length}
use Rattle.model.specs.Lists.{those, one}
use Rattle.model.specs.Policy.{is_kind, is_element_id, kind_of, user_of}
use Rattle.model.specs.Bits.{bits_n}
use Rattle.model.specs.Image.{element_bits, assignment_bits, association_bits, id_bits, prohibition_bits, process_bits, group_bits}
use Rattle.model.proofs.Truth.{and_join}
use Rattle.model.proofs.Image.Bits.{split}
use Rattle.bits.proofs.Spelling.{low, numbers_join}
use Rattle.table.specs.Layout.{word, assignment_count, kind_word, user_word, prohibition_start}
use Rattle.table.specs.View.{policy_of, assignments_of, assignment_at, association_at, prohibition_at, inclusion_count, exclusion_count}
use Rattle.table.proofs.ById.{kind_above, kind_is, user_above, user_is}
use Rattle.table.proofs.Listed.{inclusions_long, exclusions_long}
use Rattle.put.specs.Put.{number_bits, element_bits_at, process_bits_at, limit_bits}
use Rattle.put.proofs.Runs.{word_bits, run_parts, told_off, numbers_run, ids_run}

-- a number in two parts
parted : (m k w : ℕ) → bits_n m (w / 2 ^ k) ++ bits_n k (w % 2 ^ k) ≡ bits_n (m + k) w
parted m k w = rw (low k w) (sym (split m k w))

-- a word that holds two ids
two_ids : (w : ℕ) → bits_n 9 (w / 512) ++ bits_n 9 (w % 512) ≡ bits_n 18 w
two_ids = parted 9 9

-- a prohibition's first word: sort, subject and form
sort_subject_form : (w : ℕ) → bits_n 2 (w / 1024) ++ (bits_n 9 (w / 2 % 512) ++ bits_n 1 (w % 2)) ≡ bits_n 12 w
sort_subject_form w =
    let e : bits_n 9 (w / 2 % 512) ≡ bits_n 9 (w / 2) = low 9 (w / 2) in
    let f : bits_n 9 (w / 2) ++ bits_n 1 (w % 2) ≡ bits_n 10 w = parted 9 1 w in
    rw (e, f) (sym (split 2 10 w))

-- its third word: how many inclusions, how many exclusions
two_counts : (w : ℕ) → bits_n 3 (w / 8) ++ bits_n 3 (w % 8) ≡ bits_n 6 w
two_counts = parted 3 3

-- the assignments of a table are its words
pub assignments_numbers : (mem : List ℕ) → 776 + assignment_count mem ≤ length mem
    → group_bits assignment_bits (policy_of mem).assignments ≡ number_bits mem 776 (assignment_count mem) 18
unfolding policy_of assignments_of assignment_bits group_bits word_bits
assignments_numbers mem h =
    told_off (group_bits assignment_bits) assignment_bits refl (λ a l. refl) (assignment_count mem) (assignment_at mem) (word_bits mem 18) 776
    (λ i. two_ids (word mem (776 + i)))
    ∙ sym (numbers_run mem 776 (assignment_count mem) 18 h)

-- an association is its two words
pub association_words : (mem : List ℕ) (i : ℕ)
    → association_bits (association_at mem i) ≡ bits_n 18 (word mem (2776 + 2 * i)) ++ bits_n 32 (word mem (2776 + 2 * i + 1))
unfolding association_bits
association_words mem i =
    let w : ℕ = word mem (2776 + 2 * i) in
    sym (append_assoc (bits_n 9 (w / 512)) (bits_n 9 (w % 512)) (bits_n 32 (word mem (2776 + 2 * i + 1))))
    ∙ ap (λ (l : List Bool). l ++ bits_n 32 (word mem (2776 + 2 * i + 1))) (two_ids w)

-- a prohibition is its first three words and the words of its ids
pub prohibition_words : (mem : List ℕ) (i n : ℕ) → prohibition_start i + 3 + n ≤ length mem
    → n ≡ inclusion_count mem (prohibition_start i) + exclusion_count mem (prohibition_start i)
    → prohibition_bits (prohibition_at mem i) ≡ limit_bits mem (prohibition_start i) ++ number_bits mem (prohibition_start i + 3) n 9
unfolding prohibition_bits limit_bits
prohibition_words mem i n h e =
    let start : ℕ = prohibition_start i in
    let w : ℕ = word mem start in
    let c : ℕ = word mem (start + 2) in
    let a : ℕ = inclusion_count mem start in
    let b : ℕ = exclusion_count mem start in
    let ids : id_bits (prohibition_at mem i).inclusion ++ id_bits (prohibition_at mem i).exclusion ≡ number_bits mem (start + 3) n 9 =
    rw (ids_run mem (start + 3) a, ids_run mem (start + 3 + a) b, ← run_parts (word_bits mem 9) (start + 3) a b, ← e)
    (sym (numbers_run mem (start + 3) n 9 h)) in
    rw (inclusions_long mem i, exclusions_long mem i, ids, ← sort_subject_form w, ← two_counts c) (simp append_assoc)

-- A record that is there if its word is 1 to top, by what is read of it: the word, or 0 where it is not there.
module _ (w top value : ℕ) (above : top < w → 0 ≡ value) (as_is : w ≤ top → w ≡ value) where
  -- 0 is read: it is not there
  not_there : value ≡ 0 → (leb 1 w && leb w top) ≡ false
  not_there z = elim (dec_lt top w) [
    | yes h ↦ rw (lt-leb w top h) (and-false (leb 1 w))
    | no h ↦ let o : w ≡ 0 = as_is (omega arith) ∙ z in rw o
  ]

  -- another number is read: it is there, and its word is that number
  there : (value ≡ 0 → ⊥) → ((leb 1 w && leb w top) ≡ true) × (value ≡ w) × (w ≤ top)
  there some = elim (dec_lt top w) [
    | yes h ↦ absurd (some (sym (above h)))
    | no h ↦
        let e : w ≡ value = as_is (omega arith) in
        (and_join (leb 1 w) (leb w top) (le-leb 1 w (omega (arith, some))) (le-leb w top (omega arith)), sym e, omega arith)
  ]

-- The bits of those of one record that pass a test.
module _ {A : Type 0} (bits : A → List Bool) (t : A → Bool) (a : A) where
  -- it passes: its bits
  passed : t a ≡ true → group_bits bits (those t (one a)) ≡ bits a
  unfolding group_bits those
  passed e = rw e (append-nil (bits a))

  -- it does not: none
  failed : t a ≡ false → group_bits bits (those t (one a)) ≡ []
  unfolding group_bits those
  failed e = rw e

-- Element x, by the kind that is read of it.
module _ (mem : List ℕ) (x kind : ℕ) (low-id : 1 ≤ x) (high-id : x < 512) (is : kind ≡ kind_of (policy_of mem) x) where
  -- it is not there
  pub element_absent : kind ≡ 0 → element_bits_at mem x ≡ []
  unfolding element_bits_at is_kind
  element_absent z =
      failed element_bits (λ e. is_kind e.kind) (record { id = x; kind = kind_word mem x })
      (not_there (kind_word mem x) 5 (kind_of (policy_of mem) x) (kind_above mem x) (kind_is mem x low-id (omega arith)) (sym is ∙ z))

  -- it is there
  pub element_there : (kind ≡ 0 → ⊥) → element_bits_at mem x ≡ bits_n 12 (x * 8 + kind % 8)
  unfolding element_bits_at is_kind element_bits
  element_there some =
      let k : ℕ = kind_word mem x in
      let h = there k 5 (kind_of (policy_of mem) x) (kind_above mem x) (kind_is mem x low-id (omega arith)) (λ z. some (is ∙ z)) in
      let m : kind % 8 ≡ k = omega arith in
      passed element_bits (λ e. is_kind e.kind) (record { id = x; kind = k }) h.0 ∙ rw m (numbers_join 9 3 x k (omega arith))

-- Process i, by the user that is read of it.
module _ (mem : List ℕ) (i user : ℕ) (low-id : 1 ≤ i) (high-id : i < 256) (is : user ≡ user_of (policy_of mem) i) where
  -- it is not there
  pub process_absent : user ≡ 0 → process_bits_at mem i ≡ []
  unfolding process_bits_at is_element_id
  process_absent z =
      failed process_bits (λ q. is_element_id q.owner) (record { id = i; owner = user_word mem i })
      (not_there (user_word mem i) 511 (user_of (policy_of mem) i) (user_above mem i) (user_is mem i low-id (omega arith)) (sym is ∙ z))

  -- it is there
  pub process_there : (user ≡ 0 → ⊥) → process_bits_at mem i ≡ bits_n 17 (i * 512 + user % 512)
  unfolding process_bits_at is_element_id process_bits
  process_there some =
      let u : ℕ = user_word mem i in
      let h = there u 511 (user_of (policy_of mem) i) (user_above mem i) (user_is mem i low-id (omega arith)) (λ z. some (is ∙ z)) in
      let m : user % 512 ≡ u = omega arith in
      passed process_bits (λ q. is_element_id q.owner) (record { id = i; owner = u }) h.0 ∙ rw m (numbers_join 8 9 i u (omega arith))
