-- After a write: it is read back, what stands elsewhere is read as before, and neighbouring pieces are one piece.
-- Assumes nothing.
use mathlib.Core.Path.{◌≡◌, sym, ◌∙◌}
use mathlib.Core.Bool.{Bool}
use mathlib.Core.List.{List}
use mathlib.Core.Logic.{◌⊎◌, ⊎_elim}
use Prim.Native.Nat.{ℕ, ◌+◌, ◌*◌, ◌%◌, ◌^◌, ◌≤◌, ◌<◌}
use native.Mathlib.Nat.{mod-eq_of_lt}
use native.Mathlib.Omega.{arith}
use lib.ListN.{length}
use Rattle.model.specs.Bits.{bits_n, bits_of, num_at}
use Rattle.model.specs.Refusal.{accepted, answer}
use Rattle.model.proofs.Image.Bits.{length_bits_n, length_bits_of, num_low, spelled_lt}
use Rattle.bits.specs.Cursor.{reading, written, There, Taken, Written}
use Rattle.bits.proofs.Spelling.{numbers_join}
use Rattle.bits.proofs.Places.{reads_join, length_written, at_written, before_written, after_written, writes_join, writes_apart}
use Rattle.bits.proofs.Answers.{read_there}

-- the n low bits of v, where they were just written, spell v's remainder by 2 ^ n
pub number_back : (l : List Bool) (at n v : ℕ) → at + n ≤ length l → num_at (written l at (bits_n n v)) at n ≡ v % 2 ^ n
number_back l at n v h =
    let k : at + length (bits_n n v) ≤ length l = rw (length_bits_n n v) h in
    rw (length_bits_n n v) at (at_written l at (bits_n n v) k) ∙ num_low n v

-- After a write of the n low bits of v, for which there was room.
module _ (s t : List ℕ) (at n v next : ℕ) (there : There s at n) (w : Written s t at n v next) where
  -- there is room for those bits
  fits : at + length (bits_n n v) ≤ length (bits_of s)
  fits = rw (length_bits_n n v, length_bits_of s) there.room

  -- a read there gives v's remainder by 2 ^ n
  pub read_back : reading (bits_of t) at n ≡ accepted (record { value = v % 2 ^ n; next = at + n })
  read_back =
      let h : at + n ≤ length (bits_of t) = rw (length_bits_of t, w.long) there.room in
      let e : num_at (bits_of t) at n ≡ v % 2 ^ n = rw w.bits_are (number_back (bits_of s) at n v (rw (length_bits_of s) there.room)) in
      rw e at (read_there (bits_of t) at n h)

  -- and v itself, where v fits n bits
  pub read_back_whole : v < 2 ^ n → reading (bits_of t) at n ≡ accepted (record { value = v; next = at + n })
  read_back_whole h = rw (mod-eq_of_lt h) at read_back

  -- a read that ends before it, or starts behind it, is as it was
  pub read_elsewhere : (p k : ℕ) → (p + k ≤ at) ⊎ (at + n ≤ p) → reading (bits_of t) p k ≡ reading (bits_of s) p k
  unfolding reading answer
  read_elsewhere p k o =
      ⊎_elim
      (λ b. alike (before_written (bits_of s) at (bits_n n v) fits p k b))
      (λ b. alike (after_written (bits_of s) at (bits_n n v) fits p k (rw (length_bits_n n v) b)))
      o
    where
      alike : num_at (written (bits_of s) at (bits_n n v)) p k ≡ num_at (bits_of s) p k → reading (bits_of t) p k ≡ reading (bits_of s) p k
      alike e = rw (w.bits_are, e, length_written (bits_of s) at (bits_n n v) fits)

-- two neighbouring numbers that are taken are one
pub taken_join : (s : List ℕ) (at m k v w mid next : ℕ) → at + (m + k) ≤ 8 * length s → Taken s at m v mid → Taken s mid k w next → Taken s at (m + k) (v * 2 ^ k + w) next
taken_join s at m k v w mid next h a b =
    let room : at + (m + k) ≤ length (bits_of s) = rw (length_bits_of s) h in
    let e : v * 2 ^ k + w ≡ num_at (bits_of s) at (m + k) = rw (a.value_is, b.value_is, a.next_is) (sym (reads_join (bits_of s) at m k room)) in
    record { value_is = e; next_is = omega arith; small = rw e (spelled_lt (bits_of s) at (m + k)) }

-- two neighbouring numbers that are written are one
pub written_join : (s t u : List ℕ) (at m k v w mid next : ℕ) → at + (m + k) ≤ 8 * length s → w < 2 ^ k → Written s t at m v mid → Written t u mid k w next
    → Written s u at (m + k) (v * 2 ^ k + w) next
written_join s t u at m k v w mid next h lt a b =
    let lm : length (bits_n m v) ≡ m = length_bits_n m v in
    let lb : length (bits_of s) ≡ 8 * length s = length_bits_of s in
    let e : written (bits_of t) mid (bits_n k w) ≡ written (bits_of s) at (bits_n (m + k) (v * 2 ^ k + w)) =
    rw (a.bits_are, a.next_is, ← numbers_join m k v w lt) (rw lm at (writes_join (bits_of s) at (bits_n m v) (omega arith) (bits_n k w))) in
    record {
      bytes_are = b.bytes_are ∙ rw (e, a.long);
      bits_are = b.bits_are ∙ e;
      long = b.long ∙ a.long;
      next_is = omega arith;
    }

-- two writes at places apart from each other leave the same bytes in either order
pub written_apart : (s t u t' u' : List ℕ) (at n v p k w a b a' b' : ℕ) → There s at n → There s p k → at + n ≤ p
    → Written s t at n v a → Written t u p k w b → Written s t' p k w a' → Written t' u' at n v b' → u ≡ u'
written_apart s t u t' u' at n v p k w a b a' b' h i apart f g f' g' =
    let ln : length (bits_n n v) ≡ n = length_bits_n n v in
    let lk : length (bits_n k w) ≡ k = length_bits_n k w in
    let lb : length (bits_of s) ≡ 8 * length s = length_bits_of s in
    let r1 : at + n ≤ 8 * length s = h.room in
    let r2 : p + k ≤ 8 * length s = i.room in
    let e : written (bits_of t) p (bits_n k w) ≡ written (bits_of t') at (bits_n n v) =
    rw (f.bits_are, f'.bits_are) (writes_apart (bits_of s) at (bits_n n v) (omega arith) p (bits_n k w) (omega arith) (omega arith)) in
    g.bytes_are ∙ (rw (f.long, e, f'.long)) ∙ sym g'.bytes_are
