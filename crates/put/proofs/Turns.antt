-- What each function that puts has at hand at a step, and what it needs there.
-- Assumes nothing.
use mathlib.Core.Path.{◌≡◌, sym, ap, ◌∙◌}
use mathlib.Core.Bool.{Bool}
use mathlib.Core.List.{List, ◌++◌}
use Prim.Native.Nat.{ℕ, ◌+◌, ◌-◌, ◌*◌, ◌%◌, ◌^◌, ◌≤◌, ◌<◌}
use native.Mathlib.Nat.{add-zero, add_assoc, sub-zero}
use native.Mathlib.Omega.{arith}
use lib.ListN.{length, get_or, length-append}
use Rattle.model.specs.Policy.{Prohibition, kind_of, user_of}
use Rattle.model.specs.Bits.{bits_n}
use Rattle.model.specs.Image.{element_bits, assignment_bits, association_bits, prohibition_bits, process_bits, group_bits}
use Rattle.model.proofs.Image.Bits.{length_bits_n}
use Rattle.model.proofs.Image.Prohibitions.{length_prohibition}
use Rattle.bits.specs.Cursor.{There, Written}
use Rattle.table.specs.Layout.{word, assignment_count, association_count, prohibition_count, prohibition_start}
use Rattle.table.specs.View.{policy_of, prohibition_at, inclusion_count, exclusion_count}
use Rattle.table.specs.Facts.{Table, AtMost}
use Rattle.measure.specs.Places.{Reaches}
use Rattle.put.specs.Put.{Put, number_bits, element_bits_at, process_bits_at, limit_bits}
use Rattle.put.proofs.Joins.{put_none, put_one, put_as, put_then, put_both, reaches_first, reaches_rest}
use Rattle.put.proofs.Runs.{run, word_bits, association_bits_at, prohibition_bits_at, numbers_run, length_words, elements_run, processes_run, associations_run, prohibitions_run}
use Rattle.put.proofs.Words.{assignments_numbers, association_words, prohibition_words, element_absent, element_there, process_absent, process_there}
use Rattle.put.proofs.Filling.{Filling, filling_start, filling_room, filling_turn, filling_end}

-- there is room for a number of n bits where there is room for its bits
room_for : {s : List ℕ} {at n : ℕ} (v : ℕ) → 1 ≤ n → n ≤ 32 → Reaches s at (length (bits_n n v)) → There s at n
room_for {n} v a b r = let e : length (bits_n n v) ≡ n = length_bits_n n v in record { some = a; width = b; room = omega arith; few = r.few }

-- Numbers: the words from a place on, i of n were put.
module _ {s : List ℕ} {at : ℕ} (mem : List ℕ) (from n width : ℕ) where
  -- before the first turn
  pub number_start : ((i : ℕ) → get_or s i 0 < 2 ^ 8) → Reaches s at (width * n) → Filling s s at (word_bits mem width) from (from + n) (from + 0) at
  number_start bytes r =
      let e : from + n - from ≡ n = omega arith in
      let l : length (run (word_bits mem width) from (from + n - from)) ≡ width * n = rw e (length_words mem width from n) in
      rw (add-zero from) (filling_start (word_bits mem width) from (from + n) (omega arith) bytes (rw l r))

  module _ {t : List ℕ} {i p : ℕ} (g : Filling s t at (word_bits mem width) from (from + n) (from + i) p) where
    -- there is room for the next
    pub number_room : i < n → 1 ≤ width → width ≤ 32 → There t p width
    unfolding word_bits
    number_room h a b = room_for (word mem (from + i)) a b (filling_room g (omega arith))

    -- after a turn
    pub number_turn : {u : List ℕ} {q : ℕ} → i < n → Written t u p width (word mem (from + i)) q
        → Filling s u at (word_bits mem width) from (from + n) (from + (i + 1)) q
    unfolding word_bits
    number_turn h w = rw (add_assoc from i 1) at (filling_turn g (omega arith) (put_one w))

    -- after the last turn
    pub number_end : n ≤ i → from + n ≤ length mem → Put s t at (number_bits mem from n width) p
    number_end h k =
        let e : from + n - from ≡ n = omega arith in
        put_as (ap (run (word_bits mem width) from) e ∙ sym (numbers_run mem from n width k)) (filling_end g (omega arith))

-- Element x, by its kind.
module _ (mem : List ℕ) (x kind : ℕ) (low-id : 1 ≤ x) (high-id : x < 512) (is : kind ≡ kind_of (policy_of mem) x) where
  -- it is not there, and nothing is put
  pub element_none : (s : List ℕ) (at : ℕ) → kind ≡ 0 → ((i : ℕ) → get_or s i 0 < 2 ^ 8) → Put s s at (element_bits_at mem x) at
  element_none s at z bytes = put_as (sym (element_absent mem x kind low-id high-id is z)) (put_none s at bytes)

  -- it is there: there is room for its 12 bits
  pub element_room : {s : List ℕ} {at : ℕ} → (kind ≡ 0 → ⊥) → Reaches s at (length (element_bits_at mem x)) → There s at 12
  element_room some r = room_for (x * 8 + kind % 8) (omega arith) (omega arith) (rw (element_there mem x kind low-id high-id is some) at r)

  -- and they are put
  pub element_put : {s t : List ℕ} {at next : ℕ} → (kind ≡ 0 → ⊥) → Written s t at 12 (x * 8 + kind % 8) next → Put s t at (element_bits_at mem x) next
  element_put some w = put_as (sym (element_there mem x kind low-id high-id is some)) (put_one w)

-- Process i, by its user.
module _ (mem : List ℕ) (i user : ℕ) (low-id : 1 ≤ i) (high-id : i < 256) (is : user ≡ user_of (policy_of mem) i) where
  -- it is not there, and nothing is put
  pub process_none : (s : List ℕ) (at : ℕ) → user ≡ 0 → ((k : ℕ) → get_or s k 0 < 2 ^ 8) → Put s s at (process_bits_at mem i) at
  process_none s at z bytes = put_as (sym (process_absent mem i user low-id high-id is z)) (put_none s at bytes)

  -- it is there: there is room for its 17 bits
  pub process_room : {s : List ℕ} {at : ℕ} → (user ≡ 0 → ⊥) → Reaches s at (length (process_bits_at mem i)) → There s at 17
  process_room some r = room_for (i * 512 + user % 512) (omega arith) (omega arith) (rw (process_there mem i user low-id high-id is some) at r)

  -- and they are put
  pub process_put : {s t : List ℕ} {at next : ℕ} → (user ≡ 0 → ⊥) → Written s t at 17 (i * 512 + user % 512) next → Put s t at (process_bits_at mem i) next
  process_put some w = put_as (sym (process_there mem i user low-id high-id is some)) (put_one w)

-- Elements: those below x were put.
module _ {s : List ℕ} {at : ℕ} (mem : List ℕ) where
  -- before the first turn
  pub elements_start : ((i : ℕ) → get_or s i 0 < 2 ^ 8) → Reaches s at (length (group_bits element_bits (policy_of mem).elements))
      → Filling s s at (element_bits_at mem) 1 512 1 at
  elements_start bytes r = filling_start (element_bits_at mem) 1 512 (omega arith) bytes (rw (elements_run mem) at r)

  module _ {t : List ℕ} {x p : ℕ} (g : Filling s t at (element_bits_at mem) 1 512 x p) where
    -- there is room for the next
    pub elements_room : x < 512 → Reaches t p (length (element_bits_at mem x))
    elements_room h = filling_room g h

    -- after a turn
    pub elements_turn : {u : List ℕ} {q : ℕ} → x < 512 → Put t u p (element_bits_at mem x) q → Filling s u at (element_bits_at mem) 1 512 (x + 1) q
    elements_turn h b = filling_turn g h b

    -- after the last turn
    pub elements_end : 512 ≤ x → Put s t at (group_bits element_bits (policy_of mem).elements) p
    elements_end h = put_as (sym (elements_run mem)) (filling_end g h)

-- Processes: those below i were put.
module _ {s : List ℕ} {at : ℕ} (mem : List ℕ) where
  -- before the first turn
  pub processes_start : ((i : ℕ) → get_or s i 0 < 2 ^ 8) → Reaches s at (length (group_bits process_bits (policy_of mem).processes))
      → Filling s s at (process_bits_at mem) 1 256 1 at
  processes_start bytes r = filling_start (process_bits_at mem) 1 256 (omega arith) bytes (rw (processes_run mem) at r)

  module _ {t : List ℕ} {i p : ℕ} (g : Filling s t at (process_bits_at mem) 1 256 i p) where
    -- there is room for the next
    pub processes_room : i < 256 → Reaches t p (length (process_bits_at mem i))
    processes_room h = filling_room g h

    -- after a turn
    pub processes_turn : {u : List ℕ} {q : ℕ} → i < 256 → Put t u p (process_bits_at mem i) q → Filling s u at (process_bits_at mem) 1 256 (i + 1) q
    processes_turn h b = filling_turn g h b

    -- after the last turn
    pub processes_end : 256 ≤ i → Put s t at (group_bits process_bits (policy_of mem).processes) p
    processes_end h = put_as (sym (processes_run mem)) (filling_end g h)

-- Associations: the first i of n were put.
module _ {s : List ℕ} {at : ℕ} (mem : List ℕ) (n : ℕ) where
  -- before the first turn
  pub associations_start : n ≡ association_count mem → ((i : ℕ) → get_or s i 0 < 2 ^ 8) → Reaches s at (length (group_bits association_bits (policy_of mem).associations))
      → Filling s s at (association_bits_at mem) 0 n 0 at
  associations_start e bytes r =
      filling_start (association_bits_at mem) 0 n (omega arith) bytes (rw (associations_run mem, ← e, ← sub-zero n) at r)

  module _ {t : List ℕ} {i p : ℕ} (g : Filling s t at (association_bits_at mem) 0 n i p) where
    -- there is room for both words of the next
    both : i < n → Reaches t p (length (bits_n 18 (word mem (2776 + 2 * i)) ++ bits_n 32 (word mem (2776 + 2 * i + 1))))
    unfolding association_bits_at
    both h = rw (association_words mem i) at (filling_room g h)

    -- so there is for the first
    pub association_first : i < n → There t p 18
    association_first h =
        room_for (word mem (2776 + 2 * i)) (omega arith) (omega arith)
        (reaches_first (bits_n 18 (word mem (2776 + 2 * i))) (bits_n 32 (word mem (2776 + 2 * i + 1))) (both h))

    -- and for its rights, once that is written
    pub association_second : {u : List ℕ} {q : ℕ} → i < n → Written t u p 18 (word mem (2776 + 2 * i)) q → There u q 32
    association_second h w =
        room_for (word mem (2776 + 2 * i + 1)) (omega arith) (omega arith)
        (reaches_rest (bits_n 18 (word mem (2776 + 2 * i))) (bits_n 32 (word mem (2776 + 2 * i + 1))) (both h) (put_one w))

    -- after a turn
    pub association_turn : {u v : List ℕ} {q r : ℕ} → i < n → Written t u p 18 (word mem (2776 + 2 * i)) q → Written u v q 32 (word mem (2776 + 2 * i + 1)) r
        → Filling s v at (association_bits_at mem) 0 n (i + 1) r
    unfolding association_bits_at
    association_turn h a b = filling_turn g h (put_as (sym (association_words mem i)) (put_both (both h) (put_one a) (put_one b)))

    -- after the last turn
    pub associations_end : n ≡ association_count mem → n ≤ i → Put s t at (group_bits association_bits (policy_of mem).associations) p
    associations_end e h = put_as (ap (run (association_bits_at mem) 0) (sub-zero n ∙ e) ∙ sym (associations_run mem)) (filling_end g h)

-- Prohibitions: the first i of n were put.
module _ {s : List ℕ} {at : ℕ} (mem : List ℕ) (n : ℕ) where
  -- before the first turn
  pub prohibitions_start : n ≡ prohibition_count mem → ((i : ℕ) → get_or s i 0 < 2 ^ 8) → Reaches s at (length (group_bits prohibition_bits (policy_of mem).prohibitions))
      → Filling s s at (prohibition_bits_at mem) 0 n 0 at
  prohibitions_start e bytes r =
      filling_start (prohibition_bits_at mem) 0 n (omega arith) bytes (rw (prohibitions_run mem, ← e, ← sub-zero n) at r)

  module _ {t : List ℕ} {i p : ℕ} (g : Filling s t at (prohibition_bits_at mem) 0 n i p) where
    -- there is room for the next
    pub prohibitions_room : i < n → Reaches t p (length (prohibition_bits (prohibition_at mem i)))
    unfolding prohibition_bits_at
    prohibitions_room h = filling_room g h

    -- after a turn
    pub prohibitions_turn : {u : List ℕ} {q : ℕ} → i < n → Put t u p (prohibition_bits (prohibition_at mem i)) q
        → Filling s u at (prohibition_bits_at mem) 0 n (i + 1) q
    unfolding prohibition_bits_at
    prohibitions_turn h b = filling_turn g h b

    -- after the last turn
    pub prohibitions_end : n ≡ prohibition_count mem → n ≤ i → Put s t at (group_bits prohibition_bits (policy_of mem).prohibitions) p
    prohibitions_end e h = put_as (ap (run (prohibition_bits_at mem) 0) (sub-zero n ∙ e) ∙ sym (prohibitions_run mem)) (filling_end g h)

-- Assignments: n words.
module _ (mem : List ℕ) (n : ℕ) (table : Table mem) (is : n ≡ assignment_count mem) where
  -- they are in the table
  assignments_inside : 776 + n ≤ length mem
  assignments_inside = omega arith

  -- their bits
  assignments_are : group_bits assignment_bits (policy_of mem).assignments ≡ number_bits mem 776 n 18
  assignments_are = rw is (assignments_numbers mem (rw is at assignments_inside))

  -- there is room for them
  pub assignments_room : {s : List ℕ} {at : ℕ} → Reaches s at (length (group_bits assignment_bits (policy_of mem).assignments)) → Reaches s at (18 * n)
  assignments_room r =
      let e : length (group_bits assignment_bits (policy_of mem).assignments) ≡ 18 * n =
      ap length (assignments_are ∙ numbers_run mem 776 n 18 assignments_inside) ∙ length_words mem 18 776 n in
      rw e at r

  -- and they are put
  pub assignments_put : {s t : List ℕ} {at next : ℕ} → Put s t at (number_bits mem 776 n 18) next
      → Put s t at (group_bits assignment_bits (policy_of mem).assignments) next
  assignments_put p = put_as (sym assignments_are) p

-- a prohibition's first three words are put
pub limits_put : {s t u v : List ℕ} {at p q r : ℕ} (mem : List ℕ) (start : ℕ) → Reaches s at 50 → Written s t at 12 (word mem start) p
    → Written t u p 32 (word mem (start + 1)) q → Written u v q 6 (word mem (start + 2)) r → Put s v at (limit_bits mem start) r
unfolding limit_bits
limits_put mem start room a b c =
    let x : List Bool = bits_n 12 (word mem start) in
    let y : List Bool = bits_n 32 (word mem (start + 1)) in
    let z : List Bool = bits_n 6 (word mem (start + 2)) in
    let lx : length x ≡ 12 = length_bits_n 12 (word mem start) in
    let ly : length y ≡ 32 = length_bits_n 32 (word mem (start + 1)) in
    let lz : length z ≡ 6 = length_bits_n 6 (word mem (start + 2)) in
    let lyz : length (y ++ z) ≡ length y + length z = length-append y z in
    put_then (put_one a) (put_then (put_one b) (put_one c) (omega arith)) (omega arith)

-- Prohibition i, of a inclusions and b exclusions.
module _ (mem : List ℕ) (i a b : ℕ) (table : Table mem) (early : i < prohibition_count mem)
    (a-is : AtMost (inclusion_count mem (prohibition_start i)) 4 a) (b-is : AtMost (exclusion_count mem (prohibition_start i)) 4 b) where
  -- its words are in the table
  prohibition_inside : prohibition_start i + 3 + (a + b) ≤ length mem
  prohibition_inside = omega arith

  -- its bits
  prohibition_are : prohibition_bits (prohibition_at mem i) ≡ limit_bits mem (prohibition_start i) ++ number_bits mem (prohibition_start i + 3) (a + b) 9
  prohibition_are = prohibition_words mem i (a + b) prohibition_inside (omega arith)

  module _ {s : List ℕ} {at : ℕ} (room : Reaches s at (length (prohibition_bits (prohibition_at mem i)))) where
    -- there is room for its two parts
    both_parts : Reaches s at (length (limit_bits mem (prohibition_start i) ++ number_bits mem (prohibition_start i + 3) (a + b) 9))
    both_parts = rw prohibition_are at room

    -- there is room for the ids, once the first three words are put
    pub prohibition_rest : {t : List ℕ} {p : ℕ} → Put s t at (limit_bits mem (prohibition_start i)) p → Reaches t p (9 * (a + b))
    prohibition_rest x =
        let e : length (number_bits mem (prohibition_start i + 3) (a + b) 9) ≡ 9 * (a + b) =
        ap length (numbers_run mem (prohibition_start i + 3) (a + b) 9 prohibition_inside) ∙ length_words mem 9 (prohibition_start i + 3) (a + b) in
        rw e at (reaches_rest (limit_bits mem (prohibition_start i)) (number_bits mem (prohibition_start i + 3) (a + b) 9) both_parts x)

    -- and the whole is put
    pub prohibition_put : {t u : List ℕ} {p q : ℕ} → Put s t at (limit_bits mem (prohibition_start i)) p
        → Put t u p (number_bits mem (prohibition_start i + 3) (a + b) 9) q → Put s u at (prohibition_bits (prohibition_at mem i)) q
    prohibition_put x y = put_as (sym prohibition_are) (put_both both_parts x y)

-- there is room for a prohibition's first three words
pub limits_room : {s : List ℕ} {at : ℕ} (b : Prohibition) → Reaches s at (length (prohibition_bits b)) → Reaches s at 50
limits_room b r = let e = length_prohibition b in record { few = r.few; room = omega arith }
