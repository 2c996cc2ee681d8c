-- Full rows, less those of elements that are not there, are the table's index, byte for byte.
-- Assumes nothing.
use mathlib.Core.Path.{◌≡◌, sym, ap, ◌∙◌}
use mathlib.Core.Bool.{Bool, true, false, ◌&&◌}
use mathlib.Core.List.{List}
use Prim.Native.Nat.{ℕ, ◌+◌, ◌*◌, ◌/◌, ◌%◌, ◌<◌}
use native.Mathlib.Omega.{arith}
use lib.ListN.{length, get_or}
use lib.Seq.{ext_get_or}
use Rattle.model.specs.Lists.{tabulate}
use Rattle.model.specs.Policy.{is_there}
use Rattle.model.specs.Contain.{Within, itself, above, contained}
use Rattle.model.specs.Bits.{odd, bits_n, num_of}
use Rattle.model.specs.Index.{index_bit, index_byte, index_of, bit_at}
use Rattle.model.proofs.Truth.{and_join, and_left, and_right, same_truth}
use Rattle.model.proofs.Contained.{within_says, within_when}
use Rattle.model.proofs.Indexed.{length_tabulate, get_d_tabulate, get_d_bits_n, index_length}
use Rattle.model.proofs.Image.Bits.{length_bits_n, num_bits_n}
use Rattle.table.specs.Layout.{assignment_count}
use Rattle.table.specs.View.{assignments_of, policy_of}
use Rattle.table.proofs.Assignments.{assigned_word}
use Rattle.index.specs.Rows.{On}
use Rattle.index.specs.Passes.{There, Full, Tidied}
use Rattle.index.proofs.Bytes.{on_true, true_on}

-- a byte is made of the bits that are read from it
byte_of_bits : (idx : List ℕ) (f : ℕ → Bool) (i : ℕ) → get_or idx i 0 < 256 → ((j : ℕ) → j < 8 → bit_at idx (i / 64) (i % 64 * 8 + j) ≡ f j)
    → get_or idx i 0 ≡ num_of (tabulate 8 f)
unfolding bit_at odd
byte_of_bits idx f i h same = sym (num_bits_n 8 (get_or idx i 0) h) ∙ ap num_of (ext_get_or false (bits_n 8 (get_or idx i 0)) (tabulate 8 f) (length_bits_n 8 (get_or idx i 0) ∙ sym (length_tabulate 8 f)) each)
  where
    each : (j : ℕ) → j < length (bits_n 8 (get_or idx i 0)) → get_or (bits_n 8 (get_or idx i 0)) j false ≡ get_or (tabulate 8 f) j false
    each j l =
        let k : j < 8 = omega (arith, length_bits_n 8 (get_or idx i 0)) in
        let at : 64 * (i / 64) + (i % 64 * 8 + j) / 8 ≡ i = omega arith in
        let bit : (i % 64 * 8 + j) % 8 ≡ j = omega arith in
        get_d_bits_n 8 (get_or idx i 0) j k ∙ (rw (at, bit) at (same j k)) ∙ sym (get_d_tabulate 8 f j false k)

module _ {mem idx idx' : List ℕ} (f : Full mem idx) (t : Tidied mem (assignment_count mem) idx idx') where
  -- an element whose row has a bit is there: either the bit is its own, or it is the child of an assignment, and its row would be cleared
  row_there : {x y : ℕ} → There mem y → Within (assignments_of mem) x y → On idx' x y → There mem x
  row_there l itself p = l
  row_there l (above a w) p = t.there (assigned_word mem a) p

  -- a bit that is 1 is one of the index
  bit_says : (x y : ℕ) → y < 512 → bit_at idx' x y ≡ true → index_bit (policy_of mem) x y ≡ true
  unfolding index_bit policy_of
  bit_says x y h e =
      let p : On idx' x y = true_on idx' x y h e in
      let i = f.sound (t.old p) in
      and_join _ _ (and_join _ _ (row_there i.there i.within p).is i.there.is) (within_when (assignments_of mem) i.within)

  -- and the other way
  bit_when : (x y : ℕ) → index_bit (policy_of mem) x y ≡ true → bit_at idx' x y ≡ true
  unfolding index_bit policy_of
  bit_when x y e =
      let a = and_left (is_there (policy_of mem) x && is_there (policy_of mem) y) (contained (policy_of mem) x y) e in
      let b = and_right (is_there (policy_of mem) x && is_there (policy_of mem) y) (contained (policy_of mem) x y) e in
      let c = and_left (is_there (policy_of mem) x) (is_there (policy_of mem) y) a in
      let d = and_right (is_there (policy_of mem) x) (is_there (policy_of mem) y) a in
      on_true (t.kept (record { is = c }) (f.complete (record { there = record { is = d }; within = within_says (assignments_of mem) b })))

  -- each byte
  byte_is : (i : ℕ) → i < 32768 → get_or idx' i 0 ≡ index_byte (policy_of mem) i
  unfolding index_byte
  byte_is i h = byte_of_bits idx' (λ j. index_bit (policy_of mem) (i / 64) (i % 64 * 8 + j)) i (omega (arith, t.bytes i, f.bytes i))
      (λ j l. same_truth _ _ (bit_says (i / 64) (i % 64 * 8 + j) (omega arith)) (bit_when (i / 64) (i % 64 * 8 + j)))

  -- the bytes are the index
  pub exactly : idx' ≡ index_of (policy_of mem)
  unfolding index_of
  exactly = ext_get_or 0 idx' (index_of (policy_of mem)) (t.size ∙ f.size ∙ sym (index_length (policy_of mem)))
      (λ i h. let k : i < 32768 = omega (arith, t.size, f.size) in byte_is i k ∙ sym (get_d_tabulate 32768 (index_byte (policy_of mem)) i 0 k))
