-- The bits of a group as a run: what is told of one number, of the next, and so on.
-- Assumes nothing.
use mathlib.Core.Path.{◌≡◌, refl, sym, ap, ◌∙◌}
use mathlib.Core.Bool.{Bool, true, false, cond}
use mathlib.Core.List.{List, [], ◌∷◌, ◌++◌, append_assoc, append-nil}
use Prim.Native.Nat.{ℕ, zero, suc, ◌+◌, ◌-◌, ◌*◌, ◌≤◌, ◌<◌}
use native.Mathlib.Nat.{add-zero, mul-zero, mul-suc}
use native.Mathlib.Omega.{arith}
use lib.ListN.{length, get_or, length-append}
use lib.Seq.{drop-cons}
use Rattle.model.specs.Lists.{those, one, tabulate}
use Rattle.model.specs.Policy.{is_kind, is_element_id}
use Rattle.model.specs.Bits.{bits_n}
use Rattle.model.specs.Image.{element_bits, association_bits, id_bits, prohibition_bits, process_bits, group_bits}
use Rattle.model.proofs.Image.Bits.{length_bits_n}
use Rattle.table.specs.Layout.{word, association_count, prohibition_count, kind_word, user_word}
use Rattle.table.specs.View.{policy_of, elements_of, processes_of, associations_of, prohibitions_of, association_at, prohibition_at}
use Rattle.put.specs.Put.{number_bits, element_bits_at, process_bits_at}

-- the bits of f at `from`, at the next number, and so on, n of them
unfoldable pub run : (f : ℕ → List Bool) (from n : ℕ) → List Bool
run f from zero = []
run f from (suc n) = f from ++ run f (suc from) n

module _ (f : ℕ → List Bool) where
  -- a run of none
  pub run_none : (from : ℕ) → run f from 0 ≡ []
  unfolding run
  run_none from = refl

  -- a run of one
  run_one : (from : ℕ) → run f from 1 ≡ f from
  unfolding run
  run_one from = append-nil (f from)

  -- a run is a shorter one and the rest of it
  pub run_parts : (from m k : ℕ) → run f from (m + k) ≡ run f from m ++ run f (from + m) k
  unfolding run
  run_parts from zero k =
      let e : 0 + k ≡ k = omega arith in
      rw (e, add-zero from)
  run_parts from (suc m) k =
      let e : suc m + k ≡ suc (m + k) = omega arith in
      let g : suc from + m ≡ from + suc m = omega arith in
      rw (e, run_parts (suc from) m k, g) (sym (append_assoc (f from) (run f (suc from) m) (run f (from + suc m) k)))

  -- one more
  pub run_more : (from n : ℕ) → run f from (n + 1) ≡ run f from n ++ f (from + n)
  run_more from n = rw (run_parts from n 1, run_one (from + n))

  -- one of them has room behind those before it
  pub run_room : (from n i : ℕ) → i < n → length (run f from i) + length (f (from + i)) ≤ length (run f from n)
  run_room from n i h =
      let e : n ≡ i + 1 + (n - (i + 1)) = omega arith in
      let a : length (run f from n) ≡ length (run f from i ++ f (from + i)) + length (run f (from + (i + 1)) (n - (i + 1))) =
      ap (λ (k : ℕ). length (run f from k)) e
      ∙ rw (run_parts from (i + 1) (n - (i + 1)), run_more from i) (length-append (run f from i ++ f (from + i)) (run f (from + (i + 1)) (n - (i + 1)))) in
      let b : length (run f from i ++ f (from + i)) ≡ length (run f from i) + length (f (from + i)) = length-append (run f from i) (f (from + i)) in
      omega arith

  -- a run of equally many bits each
  length_run : (k : ℕ) → ((i : ℕ) → length (f i) ≡ k) → (from n : ℕ) → length (run f from n) ≡ k * n
  unfolding run
  length_run k h from zero = sym (mul-zero k)
  length_run k h from (suc n) = rw (length-append (f from) (run f (suc from) n), h from, length_run k h (suc from) n, mul-suc k n) (omega arith)

-- Bits of a list that are the bits of its first and those of the rest.
module _ {A : Type 0} (whole : List A → List Bool) (bits : A → List Bool) (none : whole [] ≡ [])
    (more : (a : A) (l : List A) → whole (a ∷ l) ≡ bits a ++ whole l) where
  -- of a list that is told off one by one they are a run
  pub told_off : (n : ℕ) (g : ℕ → A) (f : ℕ → List Bool) (from : ℕ) → ((i : ℕ) → bits (g i) ≡ f (from + i)) → whole (tabulate n g) ≡ run f from n
  unfolding run tabulate
  told_off zero g f from h = none
  told_off (suc n) g f from h =
      more (g 0) (tabulate n (λ i. g (suc i)))
      ∙ rw (h 0, add-zero from, told_off n (λ i. g (suc i)) f (suc from) next)
    where
      next : (i : ℕ) → bits (g (suc i)) ≡ f (suc from + i)
      next i = let e : from + suc i ≡ suc from + i = omega arith in rw e at (h (suc i))

module _ {A : Type 0} (bits : A → List Bool) where
  -- a group that is told off
  group_run : (n : ℕ) (g : ℕ → A) → group_bits bits (tabulate n g) ≡ run (λ i. bits (g i)) 0 n
  unfolding group_bits
  group_run n g = told_off (group_bits bits) bits refl (λ a l. refl) n g (λ i. bits (g i)) 0 (λ i. let e : 0 + i ≡ i = omega arith in rw e)

  -- the bits of those that pass a test, the first apart
  those_first : (t : A → Bool) (a : A) (l : List A) → group_bits bits (those t (a ∷ l)) ≡ group_bits bits (those t (one a)) ++ group_bits bits (those t l)
  unfolding group_bits those
  those_first t a l = go (t a)
    where
      go : (b : Bool) → group_bits bits (cond b (a ∷ those t l) (those t l)) ≡ group_bits bits (cond b (a ∷ []) []) ++ group_bits bits (those t l)
      go true = rw (append-nil (bits a))
      go false = refl

  -- and of those of a list that is told off
  those_run : (t : A → Bool) (n : ℕ) (g : ℕ → A) (f : ℕ → List Bool) (from : ℕ) → ((i : ℕ) → group_bits bits (those t (one (g i))) ≡ f (from + i))
      → group_bits bits (those t (tabulate n g)) ≡ run f from n
  unfolding group_bits those
  those_run t n g f from h = told_off (λ l. group_bits bits (those t l)) (λ a. group_bits bits (those t (one a))) refl (those_first t) n g f from h

-- the elements of a table
pub elements_run : (mem : List ℕ) → group_bits element_bits (policy_of mem).elements ≡ run (element_bits_at mem) 1 511
unfolding policy_of elements_of element_bits_at
elements_run mem =
    those_run element_bits (λ e. is_kind e.kind) 511 (λ i. record { id = suc i; kind = kind_word mem (suc i) }) (element_bits_at mem) 1
    (λ i. let e : 1 + i ≡ suc i = omega arith in rw e)

-- its processes
pub processes_run : (mem : List ℕ) → group_bits process_bits (policy_of mem).processes ≡ run (process_bits_at mem) 1 255
unfolding policy_of processes_of process_bits_at
processes_run mem =
    those_run process_bits (λ q. is_element_id q.owner) 255 (λ i. record { id = suc i; owner = user_word mem (suc i) }) (process_bits_at mem) 1
    (λ i. let e : 1 + i ≡ suc i = omega arith in rw e)

-- the low bits of a word
unfoldable pub word_bits : (mem : List ℕ) (width : ℕ) → ℕ → List Bool
word_bits mem width j = bits_n width (word mem j)

-- words one behind another
pub numbers_run : (mem : List ℕ) (from n width : ℕ) → from + n ≤ length mem → number_bits mem from n width ≡ run (word_bits mem width) from n
unfolding number_bits group_bits run word_bits
numbers_run mem from zero width h = refl
numbers_run mem from (suc n) width h =
    rw (drop-cons mem from 0 (omega arith)) (ap (λ (l : List Bool). bits_n width (get_or mem from 0) ++ l) (numbers_run mem (suc from) n width (omega arith)))

-- how many bits they take
pub length_words : (mem : List ℕ) (width from n : ℕ) → length (run (word_bits mem width) from n) ≡ width * n
unfolding word_bits
length_words mem width from n = length_run (word_bits mem width) width (λ i. length_bits_n width (word mem i)) from n

-- ids one behind another
pub ids_run : (mem : List ℕ) (from n : ℕ) → id_bits (tabulate n (λ k. word mem (from + k))) ≡ run (word_bits mem 9) from n
unfolding id_bits word_bits
ids_run mem from n = told_off id_bits (bits_n 9) refl (λ a l. refl) n (λ k. word mem (from + k)) (word_bits mem 9) from (λ i. refl)

-- the bits of association i
unfoldable pub association_bits_at : (mem : List ℕ) → ℕ → List Bool
association_bits_at mem i = association_bits (association_at mem i)

-- the bits of prohibition i
unfoldable pub prohibition_bits_at : (mem : List ℕ) → ℕ → List Bool
prohibition_bits_at mem i = prohibition_bits (prohibition_at mem i)

-- the associations of a table
pub associations_run : (mem : List ℕ) → group_bits association_bits (policy_of mem).associations ≡ run (association_bits_at mem) 0 (association_count mem)
unfolding policy_of associations_of association_bits_at
associations_run mem = group_run association_bits (association_count mem) (association_at mem)

-- its prohibitions
pub prohibitions_run : (mem : List ℕ) → group_bits prohibition_bits (policy_of mem).prohibitions ≡ run (prohibition_bits_at mem) 0 (prohibition_count mem)
unfolding policy_of prohibitions_of prohibition_bits_at
prohibitions_run mem = group_run prohibition_bits (prohibition_count mem) (prohibition_at mem)
