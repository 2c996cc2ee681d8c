-- Elements, processes, assignments and associations laid one by one: before the first record, one more, the end.
-- Assumes nothing.
use mathlib.Core.Path.{◌≡◌, sym, ap, ◌∙◌}
use mathlib.Core.Bool.{Bool}
use mathlib.Core.List.{List, ◌∷◌}
use Prim.Native.Nat.{ℕ, suc, ◌+◌, ◌*◌, ◌≤◌, ◌<◌}
use native.Mathlib.Nat.{add-zero}
use native.Mathlib.Numerals.{add-one}
use native.Mathlib.Omega.{arith}
use lib.ListN.{length, drop, set, length-set}
use Rattle.model.specs.Bits.{bits_of, num_at}
use Rattle.model.specs.Image.{read_element, read_assignment, read_association, read_process, read_group}
use Rattle.model.proofs.Image.Bits.{length_bits_of}
use Rattle.model.proofs.Image.Groups.{group_count}
use Rattle.bits.specs.Cursor.{Taken}
use Rattle.bits.proofs.Places.{reads_join}
use Rattle.group.specs.Group.{laid}
use Rattle.group.proofs.Laid.{laid_none}
use Rattle.store.specs.Words.{with_kind, with_user, assignment_record, association_record}
use Rattle.measure.specs.Places.{Reaches}
use Rattle.measure.proofs.Placed.{at_drop}
use Rattle.unpack.specs.Words.{with_kinds, with_users, words_of, stowed, with_assignments, with_associations}
use Rattle.unpack.proofs.Laying.{Laying, laying_none, laying_more, on_all, laid_cons}

-- what the words become by the elements left
unfoldable pub kinds_on : (done left : ℕ) → List Bool → List ℕ → List ℕ
kinds_on done left l mem = with_kinds (read_group read_element left l).value mem

-- by the processes
unfoldable pub users_on : (done left : ℕ) → List Bool → List ℕ → List ℕ
users_on done left l mem = with_users (read_group read_process left l).value mem

-- by the assignments: a word each
unfoldable pub assignments_on : (done left : ℕ) → List Bool → List ℕ → List ℕ
assignments_on done left l mem = laid (776 + done) (words_of (λ a. assignment_record a.child a.container) (read_group read_assignment left l).value) mem

-- by the associations: two words each
unfoldable pub associations_on : (done left : ℕ) → List Bool → List ℕ → List ℕ
associations_on done left l mem = laid (2776 + 2 * done) (words_of association_record (read_group read_association left l).value) mem

-- a number that was taken is the one that stands so far behind a place
pub taken_at : {s : List ℕ} {q n v next : ℕ} (p i : ℕ) → Taken s q n v next → q ≡ p + i → v ≡ num_at (drop p (bits_of s)) i n
taken_at {s} {q} {n} {v} p i t e = t.value_is ∙ ap (λ (x : ℕ). num_at (bits_of s) x n) e ∙ sym (at_drop (bits_of s) p i n)

-- two ids that were taken as one number
pair_taken : {s : List ℕ} {p v q : ℕ} → Taken s p 18 v q → p + 18 ≤ 8 * length s → v ≡ num_at (drop p (bits_of s)) 0 9 * 512 + num_at (drop p (bits_of s)) 9 9
pair_taken {s} {p} t h =
    let b : length (bits_of s) ≡ 8 * length s = length_bits_of s in
    let e : p + 0 ≡ p = omega arith in
    t.value_is ∙ reads_join (bits_of s) p 9 9 (omega arith) ∙ rw (at_drop (bits_of s) p 0 9, at_drop (bits_of s) p 9 9, e)

-- two words put before the words that are laid are laid with them
pair_laid : (at : ℕ) {v w : ℕ} (a b : ℕ) (x l : List ℕ) → v ≡ a → w ≡ b → at + 1 < length l → laid at (a ∷ b ∷ x) l ≡ laid (suc (suc at)) x (set (set l at v) (at + 1) w)
pair_laid at {v} {w} a b x l e f h =
    let len : length (set l at a) ≡ length l = length-set l at a in
    rw (e, f, add-one at) (laid_cons at a (b ∷ x) l (omega arith) ∙ laid_cons (suc at) b x (set l at a) (omega arith))

module _ {s : List ℕ} {at n : ℕ} {mem : List ℕ} where
  -- before the first element
  pub elements_none : n < 512 → Reaches s at (12 * n) → length mem ≡ 8192 → Laying kinds_on 12 511 8192 s at n mem at 0 mem
  elements_none h r size = laying_none kinds_on 12 511 8192 s at n mem (omega arith) r.few r.room size

  -- before the first process
  pub processes_none : n < 256 → Reaches s at (17 * n) → length mem ≡ 8192 → Laying users_on 17 255 8192 s at n mem at 0 mem
  processes_none h r size = laying_none users_on 17 255 8192 s at n mem (omega arith) r.few r.room size

  -- before the first assignment
  pub assignments_none : n ≤ 2000 → Reaches s at (18 * n) → length mem ≡ 8192 → Laying assignments_on 18 2000 8192 s at n mem at 0 mem
  assignments_none h r size = laying_none assignments_on 18 2000 8192 s at n mem h r.few r.room size

  -- before the first association
  pub associations_none : n ≤ 1000 → Reaches s at (50 * n) → length mem ≡ 8192 → Laying associations_on 50 1000 8192 s at n mem at 0 mem
  associations_none h r size = laying_none associations_on 50 1000 8192 s at n mem h r.few r.room size

module _ {s : List ℕ} {at n : ℕ} {mem₀ : List ℕ} {p i : ℕ} {mem : List ℕ} where
  -- one element more: its kind is put into its word
  pub element_more : {v w q r : ℕ} → Laying kinds_on 12 511 8192 s at n mem₀ p i mem → i < n → Taken s p 9 v q → Taken s q 3 w r
      → Laying kinds_on 12 511 8192 s at n mem₀ r (i + 1) (set mem (8 + v) w)
  unfolding kinds_on read_group read_element with_kinds with_kind
  element_more {v} {w} {q} {r} c h t u =
      let e : v ≡ num_at (drop p (bits_of s)) 0 9 = taken_at p 0 t (sym (add-zero p)) in
      let f : w ≡ num_at (drop p (bits_of s)) 9 3 = taken_at p 9 u t.next_is in
      let far : r ≡ p + 12 = omega arith in
      laying_more c r (set mem (8 + v) w) h far (length-set mem (8 + v) w) (λ k. rw (e, f))

  -- one process more: its user is put into its word
  pub process_more : {v w q r : ℕ} → Laying users_on 17 255 8192 s at n mem₀ p i mem → i < n → Taken s p 8 v q → Taken s q 9 w r
      → Laying users_on 17 255 8192 s at n mem₀ r (i + 1) (set mem (520 + v) w)
  unfolding users_on read_group read_process with_users with_user
  process_more {v} {w} {q} {r} c h t u =
      let e : v ≡ num_at (drop p (bits_of s)) 0 8 = taken_at p 0 t (sym (add-zero p)) in
      let f : w ≡ num_at (drop p (bits_of s)) 8 9 = taken_at p 8 u t.next_is in
      let far : r ≡ p + 17 = omega arith in
      laying_more c r (set mem (520 + v) w) h far (length-set mem (520 + v) w) (λ k. rw (e, f))

  -- one assignment more: its word is put behind those that lie there
  pub assignment_more : {v q : ℕ} → Laying assignments_on 18 2000 8192 s at n mem₀ p i mem → i < n → Taken s p 18 v q
      → Laying assignments_on 18 2000 8192 s at n mem₀ q (i + 1) (set mem (776 + i) v)
  unfolding assignments_on read_group read_assignment words_of
  assignment_more {v} {q} c h t =
      let e : v ≡ num_at (drop p (bits_of s)) 0 9 * 512 + num_at (drop p (bits_of s)) 9 9 = pair_taken t (omega arith) in
      let one : 776 + suc i ≡ suc (776 + i) = omega arith in
      laying_more c q (set mem (776 + i) v) h t.next_is (length-set mem (776 + i) v) (λ k. rw (one, e) (laid_cons (776 + i) _ _ mem (omega arith)))

  -- one association more: its two words
  pub association_more : {v w q r : ℕ} → Laying associations_on 50 1000 8192 s at n mem₀ p i mem → i < n → Taken s p 18 v q → Taken s q 32 w r
      → Laying associations_on 50 1000 8192 s at n mem₀ r (i + 1) (set (set mem (2776 + 2 * i) v) (2776 + 2 * i + 1) w)
  unfolding associations_on read_group read_association words_of
  association_more {v} {w} {q} {r} c h t u =
      let e : v ≡ num_at (drop p (bits_of s)) 0 9 * 512 + num_at (drop p (bits_of s)) 9 9 = pair_taken t (omega arith) in
      let f : w ≡ num_at (drop p (bits_of s)) 18 32 = taken_at p 18 u t.next_is in
      let far : r ≡ p + 50 = omega arith in
      let two : 2776 + 2 * suc i ≡ suc (suc (2776 + 2 * i)) = omega arith in
      let m : List ℕ = set mem (2776 + 2 * i) v in
      let len : length m ≡ length mem = length-set mem (2776 + 2 * i) v in
      laying_more c r (set m (2776 + 2 * i + 1) w) h far (length-set m (2776 + 2 * i + 1) w ∙ len)
      (λ k. rw two (pair_laid (2776 + 2 * i) _ _ _ mem e f (omega arith)))

  -- at the end the kind of each element stands in its word
  pub elements_all : Laying kinds_on 12 511 8192 s at n mem₀ p i mem → n ≤ i → mem ≡ with_kinds (read_group read_element n (drop at (bits_of s))).value mem₀
  unfolding kinds_on read_group with_kinds
  elements_all c h = sym (on_all c.on h)

  -- the user of each process in its word
  pub processes_all : Laying users_on 17 255 8192 s at n mem₀ p i mem → n ≤ i → mem ≡ with_users (read_group read_process n (drop at (bits_of s))).value mem₀
  unfolding users_on read_group with_users
  processes_all c h = sym (on_all c.on h)

  -- the assignments lie there, and their number is put
  pub assignments_all : Laying assignments_on 18 2000 8192 s at n mem₀ p i mem → n ≤ i
      → set mem 1 n ≡ with_assignments (read_group read_assignment n (drop at (bits_of s))).value mem₀
  unfolding assignments_on read_group with_assignments stowed words_of
  assignments_all c h =
      rw (group_count read_assignment n (drop at (bits_of s))) (ap (λ (m : List ℕ). set m 1 n) (sym (on_all c.on h ∙ laid_none (776 + n) mem)))

  -- so do the associations
  pub associations_all : Laying associations_on 50 1000 8192 s at n mem₀ p i mem → n ≤ i
      → set mem 2 n ≡ with_associations (read_group read_association n (drop at (bits_of s))).value mem₀
  unfolding associations_on read_group with_associations stowed words_of
  associations_all c h =
      rw (group_count read_association n (drop at (bits_of s))) (ap (λ (m : List ℕ). set m 2 n) (sym (on_all c.on h ∙ laid_none (2776 + 2 * n) mem)))
