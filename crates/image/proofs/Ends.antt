-- The words of an image's table behind the last record: each is 0. Record by record, as the table is laid.
-- Assumes nothing.
use mathlib.Core.Path.{◌≡◌, refl, sym, ap, subst, ◌∙◌}
use mathlib.Core.Bool.{true}
use mathlib.Core.List.{List, ◌∷◌}
use Prim.Native.Nat.{ℕ, zero, suc, ◌+◌, ◌*◌, ◌-◌, ◌/◌, ◌%◌, ◌≤◌, ◌<◌}
use native.Mathlib.Numerals.{add-one}
use native.Mathlib.Omega.{arith}
use lib.ListN.{length, drop, get_or, set, replicate, length-drop, length-set, length-replicate, get_or-replicate}
use lib.Seq.{get_or-drop, get_or-set_other, ext_get_or}
use Rattle.model.specs.Bits.{bits_of, num_at}
use Rattle.model.specs.Image.{read_element, read_assignment, read_association, read_ids, read_prohibition, read_process, read_group, policy_in}
use Rattle.model.proofs.Image.Bits.{spelled_lt}
use Rattle.model.proofs.Image.Prohibitions.{ids_count}
use Rattle.group.specs.Group.{laid}
use Rattle.group.proofs.Laid.{laid_length, laid_over}
use Rattle.table.specs.View.{empty_table}
use Rattle.table.proofs.Empty.{empty_table_lem, empty_clear}
use Rattle.measure.specs.Places.{elements_in, assignments_in, associations_in, prohibitions_in, processes_in, assignments_at, associations_at, prohibitions_at, processes_at, behind, Counted, Reaches, Uncut}
use Rattle.measure.proofs.Placed.{elements_in_lem, assignments_in_lem, associations_in_lem, prohibitions_in_lem, processes_in_lem}
use Rattle.screen.specs.Stowable.{all_short, stowable}
use Rattle.screen.proofs.Answers.{elements_reached, prohibitions_reached}
use Rattle.unpack.specs.Words.{with_kinds, with_users, with_assignments, with_associations, with_prohibitions, table_of}
use Rattle.unpack.proofs.Laying.{Laying}
use Rattle.unpack.proofs.Turns.{kinds_on, users_on, assignments_on, associations_on, elements_none, processes_none, assignments_none, associations_none, element_more, process_more, assignment_more, association_more, elements_all, processes_all, assignments_all, associations_all}
use Rattle.unpack.proofs.Prohibitions.{Passing, passing_none, next_short, next_reaches, passing_more, passing_all}
use Rattle.unpack.proofs.Records.{few_ids, record_read}
use Rattle.unpack.proofs.Whole.{assignments_reached, associations_reached, few_assignments, few_associations, few_prohibitions, lists_short_lem}

-- as many words as a table has, and each from k on is 0
pub record Zeros (k : ℕ) (words : List ℕ) : Type 0 where
  pub size : length words ≡ 8192
  pub zero_at : (i : ℕ) → k ≤ i → get_or words i 0 ≡ 0

-- so what stands there is a list of zeros
pub zeros_rest : {k : ℕ} {words : List ℕ} → Zeros k words → drop k words ≡ replicate (8192 - k) 0
zeros_rest {k} {words} z =
    let n : ℕ = 8192 - k in
    let len : length (drop k words) ≡ n = length-drop k words ∙ ap (λ (l : ℕ). l - k) z.size in
    ext_get_or 0 (drop k words) (replicate n 0) (len ∙ sym (length-replicate {A = ℕ} n 0))
    (λ i h. let b : i < n = omega arith in get_or-drop k words i 0 ∙ z.zero_at (k + i) (omega arith) ∙ sym (get_or-replicate n i 0 0 b))

-- from a later place on too
zeros_later : {j k : ℕ} {words : List ℕ} → Zeros j words → j ≤ k → Zeros k words
zeros_later z h = record { size = z.size; zero_at = λ i l. z.zero_at i (omega arith) }

-- a word set before them leaves them
zeros_set : {k : ℕ} {words : List ℕ} (c v : ℕ) → Zeros k words → c < k → Zeros k (set words c v)
zeros_set {k} {words} c v z h =
    record { size = length-set words c v ∙ z.size; zero_at = λ i l. get_or-set_other words c i v 0 (λ e. omega arith) ∙ z.zero_at i l }

-- so do words laid before them
zeros_laid : {k : ℕ} {words : List ℕ} (at : ℕ) (x : List ℕ) → Zeros k words → at + length x ≤ k → at + length x ≤ 8192 → Zeros k (laid at x words)
zeros_laid {k} {words} at x z h l =
    let fits : at + length x ≤ length words = omega (arith, z.size) in
    record { size = laid_length at x words fits ∙ z.size; zero_at = λ i b. laid_over at x words fits i (omega arith) ∙ z.zero_at i b }

-- behind the words by id the empty table is all 0
zeros_empty : Zeros 776 empty_table
unfolding empty_table
zeros_empty = record { size = empty_table_lem.size; zero_at = λ i h. (empty_clear 776 1 3 i (omega arith)).zero_at i (omega arith) (omega arith) }

-- what goes on by each of n steps holds after all
after_all : (P : ℕ → Type 0) (n : ℕ) → ((i : ℕ) → i < n → P i → P (i + 1)) → P 0 → P n
after_all P zero step start = start
after_all P (suc n) step start = subst P (add-one n) (step n (omega arith) (after_all P n (λ i h. step i (omega arith)) start))

-- so many records of a group are laid, and each word from k on is 0 still
record Stage (k : ℕ) (Lies : ℕ → List ℕ → Type 0) : Type 0 where
  place : ℕ
  words : List ℕ
  lies : Lies place words
  zeros : Zeros k words

-- A group of n records at a place of an image, laid into words:
module _ (s : List ℕ) (at n : ℕ) {mem : List ℕ} where
  -- the kinds of elements stand before the assignments
  zeros_kinds : n < 512 → Reaches s at (12 * n) → Zeros 776 mem → Zeros 776 (with_kinds (read_group read_element n (drop at (bits_of s))).value mem)
  zeros_kinds few r z = let all = after_all Lies n step start in subst (Zeros 776) (elements_all all.lies (omega arith)) all.zeros
    where
      Lies : ℕ → Type 0
      Lies i = Stage 776 (λ p m. Laying kinds_on 12 511 8192 s at n mem p i m)

      start : Lies 0
      start = record { place = at; words = mem; lies = elements_none few r z.size; zeros = z }

      step : (i : ℕ) → i < n → Lies i → Lies (i + 1)
      step i h t =
          let p : ℕ = t.place in
          let v : ℕ = num_at (bits_of s) p 9 in
          let w : ℕ = num_at (bits_of s) (p + 9) 3 in
          record {
            place = p + 9 + 3;
            words = set t.words (8 + v) w;
            lies =
                element_more t.lies h (record { value_is = refl; next_is = refl; small = spelled_lt (bits_of s) p 9 })
                (record { value_is = refl; next_is = refl; small = spelled_lt (bits_of s) (p + 9) 3 });
            zeros = zeros_set (8 + v) w t.zeros (omega (arith, spelled_lt (bits_of s) p 9));
          }

  -- so do the users of processes
  zeros_users : n < 256 → Reaches s at (17 * n) → Zeros 776 mem → Zeros 776 (with_users (read_group read_process n (drop at (bits_of s))).value mem)
  zeros_users few r z = let all = after_all Lies n step start in subst (Zeros 776) (processes_all all.lies (omega arith)) all.zeros
    where
      Lies : ℕ → Type 0
      Lies i = Stage 776 (λ p m. Laying users_on 17 255 8192 s at n mem p i m)

      start : Lies 0
      start = record { place = at; words = mem; lies = processes_none few r z.size; zeros = z }

      step : (i : ℕ) → i < n → Lies i → Lies (i + 1)
      step i h t =
          let p : ℕ = t.place in
          let v : ℕ = num_at (bits_of s) p 8 in
          let w : ℕ = num_at (bits_of s) (p + 8) 9 in
          record {
            place = p + 8 + 9;
            words = set t.words (520 + v) w;
            lies =
                process_more t.lies h (record { value_is = refl; next_is = refl; small = spelled_lt (bits_of s) p 8 })
                (record { value_is = refl; next_is = refl; small = spelled_lt (bits_of s) (p + 8) 9 });
            zeros = zeros_set (520 + v) w t.zeros (omega (arith, spelled_lt (bits_of s) p 8));
          }

  -- the assignments stand before the associations
  zeros_assignments : n ≤ 2000 → Reaches s at (18 * n) → Zeros 2776 mem → Zeros 2776 (with_assignments (read_group read_assignment n (drop at (bits_of s))).value mem)
  zeros_assignments few r z =
      let all = after_all Lies n step start in
      subst (Zeros 2776) (assignments_all all.lies (omega arith)) (zeros_set 1 n all.zeros (omega arith))
    where
      Lies : ℕ → Type 0
      Lies i = Stage 2776 (λ p m. Laying assignments_on 18 2000 8192 s at n mem p i m)

      start : Lies 0
      start = record { place = at; words = mem; lies = assignments_none few r z.size; zeros = z }

      step : (i : ℕ) → i < n → Lies i → Lies (i + 1)
      step i h t =
          let p : ℕ = t.place in
          let v : ℕ = num_at (bits_of s) p 18 in
          record {
            place = p + 18;
            words = set t.words (776 + i) v;
            lies = assignment_more t.lies h (record { value_is = refl; next_is = refl; small = spelled_lt (bits_of s) p 18 });
            zeros = zeros_set (776 + i) v t.zeros (omega arith);
          }

  -- the associations stand before the place behind the last
  zeros_associations : (k : ℕ) → n ≤ 1000 → 2776 + 2 * n ≤ k → Reaches s at (50 * n) → Zeros k mem
      → Zeros k (with_associations (read_group read_association n (drop at (bits_of s))).value mem)
  zeros_associations k few far r z =
      let all = after_all Lies n step start in
      subst (Zeros k) (associations_all all.lies (omega arith)) (zeros_set 2 n all.zeros (omega arith))
    where
      Lies : ℕ → Type 0
      Lies i = Stage k (λ p m. Laying associations_on 50 1000 8192 s at n mem p i m)

      start : Lies 0
      start = record { place = at; words = mem; lies = associations_none few r z.size; zeros = z }

      step : (i : ℕ) → i < n → Lies i → Lies (i + 1)
      step i h t =
          let p : ℕ = t.place in
          let v : ℕ = num_at (bits_of s) p 18 in
          let w : ℕ = num_at (bits_of s) (p + 18) 32 in
          record {
            place = p + 18 + 32;
            words = set (set t.words (2776 + 2 * i) v) (2776 + 2 * i + 1) w;
            lies =
                association_more t.lies h (record { value_is = refl; next_is = refl; small = spelled_lt (bits_of s) p 18 })
                (record { value_is = refl; next_is = refl; small = spelled_lt (bits_of s) (p + 18) 32 });
            zeros = zeros_set (2776 + 2 * i + 1) w (zeros_set (2776 + 2 * i) v t.zeros (omega arith)) (omega arith);
          }

  -- the prohibitions, where there are any, stand before the place behind the last
  zeros_prohibitions : (k : ℕ) → 3 < k → n ≤ 200 → (0 < n → 5776 + 11 * n ≤ k) → Reaches s (behind (bits_of s) at n) 0
      → all_short (read_group read_prohibition n (drop at (bits_of s))).value ≡ true → Zeros k mem
      → Zeros k (with_prohibitions (read_group read_prohibition n (drop at (bits_of s))).value mem)
  zeros_prohibitions k low few far r lists z =
      let all = after_all Lies n step start in
      subst (Zeros k) (passing_all all.lies (omega arith)) (zeros_set 3 n all.zeros low)
    where
      Lies : ℕ → Type 0
      Lies i = Stage k (λ p m. Passing s at n mem p i m)

      start : Lies 0
      start = record { place = at; words = mem; lies = passing_none few r lists z.size; zeros = z }

      step : (i : ℕ) → i < n → Lies i → Lies (i + 1)
      step i h t =
          let p : ℕ = t.place in
          let v : ℕ = num_at (bits_of s) p 12 in
          let w : ℕ = num_at (bits_of s) (p + 12) 32 in
          let c : ℕ = num_at (bits_of s) (p + 12 + 32) 6 in
          let ids : List ℕ = read_ids (c / 8 % 8 + c % 8) (drop (p + 12 + 32 + 6) (bits_of s)) in
          let blank : List ℕ = v ∷ w ∷ c ∷ replicate 8 0 in
          let rec : List ℕ = laid 3 ids blank in
          let below : c / 8 % 8 + c % 8 ≤ 8 =
          few_ids (next_reaches t.lies h) (next_short t.lies h)
          (record { value_is = refl; next_is = refl; small = spelled_lt (bits_of s) p 12 })
          (record { value_is = refl; next_is = refl; small = spelled_lt (bits_of s) (p + 12) 32 })
          (record { value_is = refl; next_is = refl; small = spelled_lt (bits_of s) (p + 12 + 32) 6 })
          refl in
          let eleven : length rec ≡ 11 =
          laid_length 3 ids blank (omega (arith, ids_count (c / 8 % 8 + c % 8) (drop (p + 12 + 32 + 6) (bits_of s)))) in
          let end : 5776 + 11 * n ≤ k = far (omega arith) in
          record {
            place = p + (50 + 9 * (get_or rec 2 0 / 8 % 8 + get_or rec 2 0 % 8));
            words = laid (5776 + 11 * i) rec t.words;
            lies =
                passing_more t.lies h
                (record_read (next_reaches t.lies h) (next_short t.lies h)
                (record { value_is = refl; next_is = refl; small = spelled_lt (bits_of s) p 12 })
                (record { value_is = refl; next_is = refl; small = spelled_lt (bits_of s) (p + 12) 32 })
                (record { value_is = refl; next_is = refl; small = spelled_lt (bits_of s) (p + 12 + 32) 6 })
                refl refl)
                refl refl;
            zeros = zeros_laid (5776 + 11 * i) rec t.zeros (omega arith) (omega arith);
          }

-- Of an image that has all its fields and whose records can be laid:
module _ (s : List ℕ) (u : Uncut s) (t : stowable (policy_in s) ≡ true) where
  -- the counts of its head
  counted : Counted (bits_of s) (elements_in (bits_of s)) (assignments_in (bits_of s)) (associations_in (bits_of s)) (prohibitions_in (bits_of s)) (processes_in (bits_of s))
  counted = record {
    elements_are = refl;
    assignments_are = refl;
    associations_are = refl;
    prohibitions_are = refl;
    processes_are = refl;
    few_elements = spelled_lt (bits_of s) 4 9;
    few_assignments = spelled_lt (bits_of s) 13 11;
    few_associations = spelled_lt (bits_of s) 24 10;
    few_prohibitions = spelled_lt (bits_of s) 34 8;
    few_processes = spelled_lt (bits_of s) 42 8;
  }

  -- the bits reach behind the prohibitions
  reached : Reaches s (behind (bits_of s) (prohibitions_at (bits_of s)) (prohibitions_in (bits_of s))) 0
  reached = prohibitions_reached u counted

  -- its table has zeros from each place on that no association and no prohibition reaches
  pub zeros_table : (k : ℕ) → 2776 + 2 * associations_in (bits_of s) ≤ k → (0 < prohibitions_in (bits_of s) → 5776 + 11 * prohibitions_in (bits_of s) ≤ k)
      → Zeros k (table_of (policy_in s))
  unfolding table_of
  zeros_table k h far =
      let b = bits_of s in
      let first : Zeros 776 (with_kinds (policy_in s).elements empty_table) =
      rw (elements_in_lem b) (zeros_kinds s 50 (elements_in b) counted.few_elements (elements_reached u counted) zeros_empty) in
      let second : Zeros 776 (with_users (policy_in s).processes (with_kinds (policy_in s).elements empty_table)) =
      rw (processes_in_lem b) (zeros_users s (processes_at b) (processes_in b) counted.few_processes (record { few = u.few; room = u.room }) first) in
      let third : Zeros 2776 (with_assignments (policy_in s).assignments (with_users (policy_in s).processes (with_kinds (policy_in s).elements empty_table))) =
      rw (assignments_in_lem b)
      (zeros_assignments s (assignments_at b) (assignments_in b) (few_assignments u counted t)
      (assignments_reached (assignments_at b) (assignments_in b) (associations_in b) (prohibitions_in b) reached) (zeros_later second (omega arith))) in
      let fourth : Zeros k (with_associations (policy_in s).associations (with_assignments (policy_in s).assignments (with_users (policy_in s).processes (with_kinds (policy_in s).elements empty_table)))) =
      rw (associations_in_lem b)
      (zeros_associations s (associations_at b) (associations_in b) k (few_associations u counted t) h
      (associations_reached (assignments_at b) (assignments_in b) (associations_in b) (prohibitions_in b) reached) (zeros_later third (omega arith))) in
      rw (prohibitions_in_lem b)
      (zeros_prohibitions s (prohibitions_at b) (prohibitions_in b) k (omega arith) (few_prohibitions u counted t) far reached (lists_short_lem u counted t) fourth)
