-- A prohibition is read back as it was written, and written again as it was read: six fields, and two lists of ids behind them.
-- Assumes nothing.
use mathlib.Core.Path.{◌≡◌, refl, sym, ap, ◌∙◌}
use mathlib.Core.Bool.{Bool, true, not}
use mathlib.Core.List.{List, [], ◌∷◌, ◌++◌, append_assoc, append-nil}
use Prim.Native.Nat.{ℕ, zero, suc, ◌+◌, ◌*◌, ◌≤◌}
use native.Mathlib.Nat.{mul-add, add_assoc}
use native.Mathlib.Omega.{arith}
use borrow.Author.Tests.{leb-true}
use lib.Dec.{leb}
use lib.ListN.{length, drop, length-append, length-drop, take-append-drop}
use lib.Seq.{take_at, drop_at, drop-drop}
use Rattle.model.specs.Lists.{all_of, rising_ids, empty}
use Rattle.model.specs.Policy.{Prohibition, is_element_id, is_right_set, is_sort, is_form}
use Rattle.model.specs.Sound.{prohibition_fits, subject_in_range, lists_fit, listed}
use Rattle.model.specs.Bits.{bits_n, num_at}
use Rattle.model.specs.Image.{id_bits, prohibition_bits, read_ids, read_prohibition}
use Rattle.model.proofs.Truth.{and_cut, all_append}
use Rattle.model.proofs.Image.Bits.{length_bits_n, num_bits_n, bits_n_front}
use Rattle.model.proofs.Image.Truths.{truths}
use Rattle.model.proofs.Image.Fields.{Field, ◌wide◌, fields_then, fields_at, nth, Fit, length_fields, fields_read, fields_past, fields_written}
use Rattle.model.proofs.Image.Groups.{reading, Reads}
use Rattle.model.proofs.Image.Ranges.{id_fits, rights_fit, sort_fits, form_fits, subject_fits}

-- ids, 9 bits each
length_ids : (xs : List ℕ) → length (id_bits xs) ≡ 9 * length xs
unfolding id_bits
length_ids [] = refl
length_ids (x ∷ xs) = rw (length-append (bits_n 9 x) (id_bits xs), length_bits_n 9 x, length_ids xs) (omega arith)

past_ids : (xs : List ℕ) (rest : List Bool) → drop (9 * length xs) (id_bits xs ++ rest) ≡ rest
past_ids xs rest = drop_at (id_bits xs) rest (9 * length xs) (length_ids xs)

read_ids_lem : (xs : List ℕ) (rest : List Bool) → all_of is_element_id xs ≡ true → read_ids (length xs) (id_bits xs ++ rest) ≡ xs
unfolding id_bits read_ids all_of num_at
read_ids_lem [] rest h = refl
read_ids_lem (x ∷ xs) rest h =
    let c = and_cut (is_element_id x) (all_of is_element_id xs) h in
    rw (
      append_assoc (bits_n 9 x) (id_bits xs) rest,
      take_at (bits_n 9 x) (id_bits xs ++ rest) 9 (length_bits_n 9 x),
      drop_at (bits_n 9 x) (id_bits xs ++ rest) 9 (length_bits_n 9 x),
      num_bits_n 9 x (id_fits x c.0),
      read_ids_lem xs rest c.1,
    )

-- as many ids are read as are asked for
pub ids_count : (n : ℕ) (l : List Bool) → length (read_ids n l) ≡ n
unfolding read_ids
ids_count zero l = refl
ids_count (suc n) l = ap suc (ids_count n (drop 9 l))

ids_again : (n : ℕ) (l : List Bool) → 9 * n ≤ length l → id_bits (read_ids n l) ++ drop (9 * n) l ≡ l
unfolding id_bits read_ids num_at
ids_again zero l h = refl
ids_again (suc n) l h =
    let d : 9 * n ≤ length (drop 9 l) = rw (length-drop 9 l) (omega arith) in
    let e : 9 * suc n ≡ 9 + 9 * n = omega arith in
    rw (e, ← drop-drop (9 * n) 9 l, bits_n_front 9 l (omega arith), append_assoc, ids_again n (drop 9 l) d) (take-append-drop 9 l)

-- prohibitions: the six fields, and what stands behind them
abbrev pub limit_fields : Prohibition → List Field
limit_fields b =
    (2 wide b.sort) ∷ (9 wide b.subject) ∷ (1 wide b.form) ∷ (32 wide b.rights)
    ∷ (3 wide length b.inclusion) ∷ (3 wide length b.exclusion) ∷ []

abbrev limit_widths : List ℕ
limit_widths = 2 ∷ 9 ∷ 1 ∷ 32 ∷ 3 ∷ 3 ∷ []

prohibition_written : (b : Prohibition) (rest : List Bool)
    → prohibition_bits b ++ rest ≡ fields_then (limit_fields b) (id_bits b.inclusion ++ (id_bits b.exclusion ++ rest))
unfolding prohibition_bits
prohibition_written b rest = simp append_assoc

-- how many bits a prohibition takes
pub length_prohibition : (b : Prohibition) → length (prohibition_bits b) ≡ 50 + 9 * (length b.inclusion + length b.exclusion)
length_prohibition b =
    let x : List ℕ = b.inclusion in
    let y : List ℕ = b.exclusion in
    let e : length (prohibition_bits b ++ []) ≡ 50 + length (id_bits x ++ (id_bits y ++ [])) =
    rw (prohibition_written b []) (length_fields (limit_fields b) (id_bits x ++ (id_bits y ++ []))) in
    simp (append-nil, length-append, length_ids) at e ∙ omega arith

-- what the fields of a prohibition that fits are
pub record Fitting (b : Prohibition) : Type 0 where
  pub short : length b.inclusion + length b.exclusion ≤ 8
  pub fit : Fit (limit_fields b)
  pub inclusion_fits : all_of is_element_id b.inclusion ≡ true
  pub exclusion_fits : all_of is_element_id b.exclusion ≡ true

pub fitting : (b : Prohibition) → prohibition_fits b ≡ true → Fitting b
unfolding prohibition_fits lists_fit
fitting b h =
    let x : List ℕ = b.inclusion in
    let y : List ℕ = b.exclusion in
    let c = truths (is_sort b.sort)
    (subject_in_range b ∷ is_form b.form ∷ is_right_set b.rights ∷ all_of is_element_id (listed b) ∷ lists_fit b ∷ []) h in
    let a = and_cut (all_of is_element_id x) (all_of is_element_id y) (rw (all_append is_element_id x y) at c.1.1.1.1.0) in
    let k = truths (leb (length x) 4) (leb (length y) 4 ∷ rising_ids x ∷ rising_ids y ∷ not (empty (listed b)) ∷ []) c.1.1.1.1.1.0 in
    let i = leb-true (length x) 4 k.0 in
    let j = leb-true (length y) 4 k.1.0 in
    let s = subject_fits b c.1.0 in
    record { short = omega arith; fit = omega (arith, sort_fits, form_fits, rights_fit); inclusion_fits = a.0; exclusion_fits = a.1 }

prohibition_back : (b : Prohibition) (rest : List Bool) → prohibition_fits b ≡ true → read_prohibition (prohibition_bits b ++ rest) ≡ reading b rest
unfolding read_prohibition
prohibition_back b rest h =
    let l : List Bool = prohibition_bits b ++ rest in
    let x : List ℕ = b.inclusion in
    let y : List ℕ = b.exclusion in
    let c = fitting b h in
    let w : l ≡ fields_then (limit_fields b) (id_bits x ++ (id_bits y ++ rest)) = prohibition_written b rest in
    let f : fields_at 0 limit_widths l ≡ limit_fields b = fields_read (limit_fields b) 0 l (id_bits x ++ (id_bits y ++ rest)) c.fit w in
    let n : num_at l 44 3 ≡ length x = ap (λ (fs : List Field). nth fs 4) f in
    let m : num_at l 47 3 ≡ length y = ap (λ (fs : List Field). nth fs 5) f in
    let d : drop 50 l ≡ id_bits x ++ (id_bits y ++ rest) = fields_past (limit_fields b) 0 l (id_bits x ++ (id_bits y ++ rest)) w in
    let d₁ : drop (50 + 9 * num_at l 44 3) l ≡ id_bits y ++ rest = rw (n, ← drop-drop (9 * length x) 50 l, d) (past_ids x (id_bits y ++ rest)) in
    let d₂ : drop (50 + 9 * (num_at l 44 3 + num_at l 47 3)) l ≡ rest =
    rw (mul-add, ← add_assoc, ← drop-drop (9 * num_at l 47 3) (50 + 9 * num_at l 44 3) l, d₁, m) (past_ids y rest) in
    let p : read_ids (num_at l 44 3) (drop 50 l) ≡ x = rw (n, d) (read_ids_lem x (id_bits y ++ rest) c.inclusion_fits) in
    let q : read_ids (num_at l 47 3) (drop (50 + 9 * num_at l 44 3) l) ≡ y = rw (d₁, m) (read_ids_lem y rest c.exclusion_fits) in
    λ i. record {
      value = record { sort = nth (f i) 0; subject = nth (f i) 1; form = nth (f i) 2; rights = nth (f i) 3; inclusion = p i; exclusion = q i };
      rest = d₂ i;
    }

prohibition_again : (l : List Bool) → length (prohibition_bits (read_prohibition l).value) ≤ length l
    → l ≡ prohibition_bits (read_prohibition l).value ++ (read_prohibition l).rest
unfolding read_prohibition
prohibition_again l h =
    let b : Prohibition = (read_prohibition l).value in
    let n : ℕ = num_at l 44 3 in
    let m : ℕ = num_at l 47 3 in
    let x : List ℕ = read_ids n (drop 50 l) in
    let y : List ℕ = read_ids m (drop (50 + 9 * n) l) in
    let rest : List Bool = drop (50 + 9 * (n + m)) l in
    let i : length x ≡ n = ids_count n (drop 50 l) in
    let j : length y ≡ m = ids_count m (drop (50 + 9 * n) l) in
    let k : length (prohibition_bits b) ≡ 50 + 9 * (length x + length y) = length_prohibition b in
    let lx : 9 * n ≤ length (drop 50 l) = rw (length-drop 50 l) (omega arith) in
    let ly : 9 * m ≤ length (drop (50 + 9 * n) l) = rw (length-drop (50 + 9 * n) l) (omega arith) in
    let e : 50 + 9 * (n + m) ≡ 50 + 9 * n + 9 * m = omega arith in
    let q : id_bits y ++ rest ≡ drop (50 + 9 * n) l = rw (e, ← drop-drop (9 * m) (50 + 9 * n) l) (ids_again m (drop (50 + 9 * n) l) ly) in
    let p : id_bits x ++ (id_bits y ++ rest) ≡ drop 50 l = rw (q, ← drop-drop (9 * n) 50 l) (ids_again n (drop 50 l) lx) in
    sym (prohibition_written b rest ∙ rw (i, j, p) (fields_written limit_widths 0 l (omega arith)))

-- "at most four attributes each"
pub lists_short_lem : (b : Prohibition) → prohibition_fits b ≡ true → length b.inclusion + length b.exclusion ≤ 8
lists_short_lem b h = (fitting b h).short

-- a prohibition is read back, and written again
pub read_prohibition_lem : Reads prohibition_fits prohibition_bits read_prohibition
read_prohibition_lem = record { back = prohibition_back; again = prohibition_again }
