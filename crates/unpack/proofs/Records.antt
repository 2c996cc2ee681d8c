-- A prohibition as it is read and the record that is laid for it.
-- Assumes nothing.
use mathlib.Core.Path.{◌≡◌, refl, sym, ap, ◌∙◌}
use mathlib.Core.Bool.{Bool, true}
use mathlib.Core.List.{List, ◌∷◌, ◌++◌}
use Prim.Native.Nat.{ℕ, zero, suc, ◌+◌, ◌*◌, ◌-◌, ◌/◌, ◌%◌, ◌^◌, ◌≤◌, ◌<◌}
use native.Mathlib.Nat.{zero-add, suc-add, add-zero, add_assoc, mod-eq_of_lt}
use native.Mathlib.Omega.{arith}
use lib.Arith.{digits_div, digits_mod}
use lib.ListN.{length, drop, replicate, length-drop}
use lib.Seq.{drop-drop}
use Rattle.model.specs.Bits.{bits_of, num_at}
use Rattle.model.specs.Image.{read_ids, read_prohibition}
use Rattle.model.proofs.Image.Bits.{length_bits_of, spelled_lt}
use Rattle.model.proofs.Image.Prohibitions.{ids_count}
use Rattle.bits.specs.Cursor.{Taken}
use Rattle.bits.proofs.Places.{reads_join}
use Rattle.group.specs.Group.{laid}
use Rattle.group.proofs.Laid.{laid_behind}
use Rattle.store.specs.ProhibitionWords.{prohibition_record, Storable}
use Rattle.store.proofs.ProhibitionStored.{record_written}
use Rattle.measure.specs.Places.{Reaches, behind}
use Rattle.measure.proofs.Placed.{at_drop}
use Rattle.screen.specs.Stowable.{lists_short}
use Rattle.screen.proofs.Rules.{short_lists}
use Rattle.unpack.specs.Words.{numbers}
use Rattle.unpack.proofs.Turns.{taken_at}
use Rattle.unpack.proofs.Numbers.{ids_numbers}

-- ids and more behind them are read as one list
ids_join : (n m : ℕ) (l : List Bool) → read_ids (n + m) l ≡ read_ids n l ++ read_ids m (drop (9 * n) l)
unfolding read_ids
ids_join zero m l = rw (zero-add m)
ids_join (suc n) m l =
    let e : 9 * suc n ≡ 9 + 9 * n = omega arith in
    rw (suc-add n m, e, ids_join n m (drop 9 l), drop-drop (9 * n) 9 l)

-- what is read of the prohibition at a place: its lists are short and lie within the bits
pub record Short (s : List ℕ) (at : ℕ) : Type 0 where
  pub few : length s ≤ 2 ^ 32
  pub room : at + 50 + 9 * (num_at (drop at (bits_of s)) 44 3 + num_at (drop at (bits_of s)) 47 3) ≤ 8 * length s
  pub inclusions : length (read_prohibition (drop at (bits_of s))).value.inclusion ≡ num_at (drop at (bits_of s)) 44 3
  pub exclusions : length (read_prohibition (drop at (bits_of s))).value.exclusion ≡ num_at (drop at (bits_of s)) 47 3
  pub few_inclusions : length (read_prohibition (drop at (bits_of s))).value.inclusion ≤ 4
  pub few_exclusions : length (read_prohibition (drop at (bits_of s))).value.exclusion ≤ 4

-- so it is where the bits reach behind it and its lists pass the test
pub short : {s : List ℕ} {at : ℕ} → Reaches s (behind (bits_of s) at 1) 0 → lists_short (read_prohibition (drop at (bits_of s))).value ≡ true → Short s at
unfolding behind read_prohibition
short {s} {at} r h =
    let d : List Bool = drop at (bits_of s) in
    let i : num_at d 44 3 ≡ num_at (bits_of s) (at + 44) 3 = at_drop (bits_of s) at 44 3 in
    let j : num_at d 47 3 ≡ num_at (bits_of s) (at + 47) 3 = at_drop (bits_of s) at 47 3 in
    let k = short_lists (read_prohibition d).value h in
    record {
      few = r.few;
      room = omega arith;
      inclusions = ids_count (num_at d 44 3) (drop 50 d);
      exclusions = ids_count (num_at d 47 3) (drop (50 + 9 * num_at d 44 3) d);
      few_inclusions = k.0;
      few_exclusions = k.1;
    }

-- its fields go into the words of a record
pub storable : {s : List ℕ} {at : ℕ} → Short s at → Storable (read_prohibition (drop at (bits_of s))).value
unfolding read_prohibition
storable {s} {at} k =
    let d : List Bool = drop at (bits_of s) in
    let len : length d ≡ 8 * length s - at = length-drop at (bits_of s) ∙ ap (λ (x : ℕ). x - at) (length_bits_of s) in
    record {
      low_sort = omega (arith, spelled_lt d 0 2);
      low_subject = omega (arith, spelled_lt d 2 9);
      low_form = omega (arith, spelled_lt d 11 1);
      few_inclusions = k.few_inclusions;
      few_exclusions = k.few_exclusions;
    }

-- two counts in one number, taken apart
pub two_counts : (a b : ℕ) → a < 8 → b < 8 → (a * 8 + b) / 8 % 8 + (a * 8 + b) % 8 ≡ a + b
two_counts a b h k = rw (digits_div a k, digits_mod a k, mod-eq_of_lt h)

-- The prohibition at a place, taken in three numbers: of 12, 32 and 6 bits.
module _ {s : List ℕ} {at v w c p q r : ℕ} (reach : Reaches s (behind (bits_of s) at 1) 0) (test : lists_short (read_prohibition (drop at (bits_of s))).value ≡ true)
    (first : Taken s at 12 v p) (second : Taken s p 32 w q) (third : Taken s q 6 c r) where
  -- the first number is the sort, the subject and the form
  first_is : v ≡ num_at (drop at (bits_of s)) 0 2 * 1024 + num_at (drop at (bits_of s)) 2 9 * 2 + num_at (drop at (bits_of s)) 11 1
  first_is =
      let k = short reach test in
      let b : length (bits_of s) ≡ 8 * length s = length_bits_of s in
      let e : v ≡ num_at (bits_of s) at 2 * 1024 + num_at (bits_of s) (at + 2) 10 = first.value_is ∙ reads_join (bits_of s) at 2 10 (omega arith) in
      let f : num_at (bits_of s) (at + 2) 10 ≡ num_at (bits_of s) (at + 2) 9 * 2 + num_at (bits_of s) (at + 2 + 9) 1 = reads_join (bits_of s) (at + 2) 9 1 (omega arith) in
      e ∙ rw (f, add_assoc at 2 9, at_drop (bits_of s) at 0 2, add-zero at, at_drop (bits_of s) at 2 9, at_drop (bits_of s) at 11 1) (omega arith)

  -- the third is the two counts
  third_is : c ≡ num_at (drop at (bits_of s)) 44 3 * 8 + num_at (drop at (bits_of s)) 47 3
  third_is =
      let k = short reach test in
      let b : length (bits_of s) ≡ 8 * length s = length_bits_of s in
      let m : q ≡ at + 44 = omega arith in
      let f : num_at (bits_of s) (at + 44) 6 ≡ num_at (bits_of s) (at + 44) 3 * 8 + num_at (bits_of s) (at + 44 + 3) 3 = reads_join (bits_of s) (at + 44) 3 3 (omega arith) in
      third.value_is ∙ rw (m, f, add_assoc at 44 3, at_drop (bits_of s) at 44 3, at_drop (bits_of s) at 47 3)

  -- With the number of ids that the third tells:
  module _ {n : ℕ} (told : n ≡ c / 8 % 8 + c % 8) where
    -- it is that of both lists
    counts : n ≡ num_at (drop at (bits_of s)) 44 3 + num_at (drop at (bits_of s)) 47 3
    counts =
        let k = short reach test in
        told ∙ rw third_is (two_counts (num_at (drop at (bits_of s)) 44 3) (num_at (drop at (bits_of s)) 47 3) (omega arith) (omega arith))

    -- they are at most eight
    pub few_ids : n ≤ 8
    few_ids = let k = short reach test in omega (arith, counts)

    -- their bits are there
    pub ids_room : r + 9 * n ≤ 8 * length s
    ids_room = let k = short reach test in omega (arith, counts)

    -- the three numbers and the ids make the record
    pub record_read : {rec : List ℕ} → rec ≡ laid 3 (read_ids n (drop r (bits_of s))) (v ∷ w ∷ c ∷ replicate 8 0)
        → rec ≡ prohibition_record (read_prohibition (drop at (bits_of s))).value
    unfolding read_prohibition
    record_read e =
        let k = short reach test in
        let d : List Bool = drop at (bits_of s) in
        let x : List ℕ = (read_prohibition d).value.inclusion in
        let y : List ℕ = (read_prohibition d).value.exclusion in
        let far : r ≡ at + 50 = omega arith in
        let one : w ≡ num_at d 12 32 = taken_at at 12 second first.next_is in
        let two : c ≡ length x * 8 + length y = omega (arith, third_is) in
        let ids : read_ids n (drop r (bits_of s)) ≡ x ++ y =
        rw (counts, far, ← drop-drop 50 at (bits_of s), ids_join (num_at d 44 3) (num_at d 47 3) (drop 50 d), drop-drop (9 * num_at d 44 3) 50 d) in
        let base : List ℕ = (num_at d 0 2 * 1024 + num_at d 2 9 * 2 + num_at d 11 1) ∷ num_at d 12 32 ∷ (length x * 8 + length y) ∷ replicate 8 0 in
        e ∙ rw (ids, first_is, one, two) (record_written (storable k) refl (sym (laid_behind 3 x y base (omega arith))))

    -- the ids being numbers of 9 bits
    pub record_numbers : {rec : List ℕ} → rec ≡ laid 3 (numbers 9 n (drop r (bits_of s))) (v ∷ w ∷ c ∷ replicate 8 0)
        → rec ≡ prohibition_record (read_prohibition (drop at (bits_of s))).value
    record_numbers e = record_read (rw (ids_numbers n (drop r (bits_of s))) at e)
