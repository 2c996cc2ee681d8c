-- The loop that lays numbers, a word each: before the first, one more, the end; and that ids and assignments are such numbers.
-- Assumes nothing.
use mathlib.Core.Path.{◌≡◌, refl, sym, ap, ◌∙◌}
use mathlib.Core.Bool.{Bool}
use mathlib.Core.List.{List, ◌∷◌}
use Prim.Native.Nat.{ℕ, zero, suc, ◌+◌, ◌*◌, ◌-◌, ◌≤◌, ◌<◌}
use native.Mathlib.Nat.{add-zero}
use native.Mathlib.Omega.{arith}
use lib.ListN.{length, drop, set, length-set, length-drop}
use Rattle.model.specs.Bits.{bits_of, num_at}
use Rattle.model.specs.Image.{read_assignment, read_ids, read_group}
use Rattle.model.proofs.Image.Bits.{length_bits_of}
use Rattle.model.proofs.Image.Groups.{group_count}
use Rattle.bits.specs.Cursor.{Taken}
use Rattle.bits.proofs.Places.{reads_join}
use Rattle.group.specs.Group.{laid}
use Rattle.group.proofs.Laid.{laid_none}
use Rattle.store.specs.Words.{assignment_record}
use Rattle.measure.specs.Places.{Reaches}
use Rattle.unpack.specs.Words.{numbers, words_of, stowed, with_assignments}
use Rattle.unpack.proofs.Laying.{Laying, laying_none, laying_more, on_all, laid_cons}
use Rattle.unpack.proofs.Turns.{taken_at}

-- what the words become by the numbers left
unfoldable pub numbers_on : (width from done left : ℕ) → List Bool → List ℕ → List ℕ
numbers_on width from done left l mem = laid (from + done) (numbers width left l) mem

-- before the first
pub numbers_none : {s : List ℕ} {at n width : ℕ} (from : ℕ) (mem : List ℕ) → Reaches s at (width * n)
    → Laying (numbers_on width from) width n (length mem) s at n mem at 0 mem
numbers_none {s} {at} {n} {width} from mem r = laying_none (numbers_on width from) width n (length mem) s at n mem (omega arith) r.few r.room refl

module _ {s : List ℕ} {at n width : ℕ} (from : ℕ) {mem₀ : List ℕ} {p i : ℕ} {mem : List ℕ} (c : Laying (numbers_on width from) width n (length mem₀) s at n mem₀ p i mem) where
  -- one more
  pub number_more : from + n ≤ length mem₀ → i < n → {v q : ℕ} → Taken s p width v q → Laying (numbers_on width from) width n (length mem₀) s at n mem₀ q (i + 1) (set mem (from + i) v)
  unfolding numbers_on numbers
  number_more f h {v} {q} t =
      let e : v ≡ num_at (drop p (bits_of s)) 0 width = taken_at p 0 t (sym (add-zero p)) in
      let one : from + suc i ≡ suc (from + i) = omega arith in
      laying_more c q (set mem (from + i) v) h t.next_is (length-set mem (from + i) v) (λ k. rw (one, e) (laid_cons (from + i) _ _ mem (omega (arith, c.size))))

  -- at the end all lie there
  pub numbers_all : n ≤ i → mem ≡ laid from (numbers width n (drop at (bits_of s))) mem₀
  unfolding numbers_on numbers
  numbers_all h = sym ((let e = on_all c.on h in rw add-zero at e) ∙ laid_none (from + n) mem)

-- ids are numbers of 9 bits
pub ids_numbers : (n : ℕ) (l : List Bool) → numbers 9 n l ≡ read_ids n l
unfolding numbers read_ids
ids_numbers zero l = refl
ids_numbers (suc n) l = ap (λ (x : List ℕ). num_at l 0 9 ∷ x) (ids_numbers n (drop 9 l))

-- the words of assignments are numbers of 18 bits
assignment_numbers : (n : ℕ) (l : List Bool) → 18 * n ≤ length l → numbers 18 n l ≡ words_of (λ a. assignment_record a.child a.container) (read_group read_assignment n l).value
unfolding numbers words_of read_group read_assignment
assignment_numbers zero l h = refl
assignment_numbers (suc n) l h =
    let long : length (drop 18 l) ≡ length l - 18 = length-drop 18 l in
    let e : num_at l 0 18 ≡ num_at l 0 9 * 512 + num_at l 9 9 = reads_join l 0 9 9 (omega arith) in
    rw (e, assignment_numbers n (drop 18 l) (omega arith))

-- so they lie there, and their number is put
pub assignments_laid : {s : List ℕ} {at : ℕ} (n : ℕ) (mem₀ : List ℕ) {mem : List ℕ} → Reaches s at (18 * n) → mem ≡ laid 776 (numbers 18 n (drop at (bits_of s))) mem₀
    → set mem 1 n ≡ with_assignments (read_group read_assignment n (drop at (bits_of s))).value mem₀
unfolding with_assignments stowed
assignments_laid {s} {at} n mem₀ r e =
    let long : length (drop at (bits_of s)) ≡ 8 * length s - at = length-drop at (bits_of s) ∙ ap (λ (x : ℕ). x - at) (length_bits_of s) in
    rw (group_count read_assignment n (drop at (bits_of s)), e, assignment_numbers n (drop at (bits_of s)) (omega (arith, r.room)))
