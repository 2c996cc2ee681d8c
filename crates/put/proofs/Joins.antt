-- Bits put one behind another, and the room that is left for the next.
-- Assumes nothing.
use mathlib.Core.Path.{◌≡◌, refl, sym, ◌∙◌}
use mathlib.Core.Bool.{Bool}
use mathlib.Core.List.{List, [], ◌++◌}
use Prim.Native.Nat.{ℕ, ◌+◌, ◌*◌, ◌^◌, ◌≤◌, ◌<◌}
use native.Mathlib.Omega.{arith}
use lib.ListN.{length, get_or, length-append}
use Rattle.model.specs.Bits.{bits_n, bits_of}
use Rattle.model.proofs.Image.Bits.{length_bits_n, length_bits_of, bytes_of_bits}
use Rattle.bits.specs.Cursor.{written, Written}
use Rattle.bits.proofs.Places.{write_none, writes_join}
use Rattle.bits.proofs.InBytes.{bytes_known}
use Rattle.measure.specs.Places.{Reaches}
use Rattle.put.specs.Put.{Put}

-- nothing is put, and the bytes stay as they are
pub put_none : (s : List ℕ) (at : ℕ) → ((i : ℕ) → get_or s i 0 < 2 ^ 8) → Put s s at [] at
put_none s at h = record {
  bytes_are = sym (bytes_of_bits s (bytes_known s h)) ∙ rw (write_none (bits_of s) at);
  bits_are = sym (write_none (bits_of s) at);
  long = refl;
  next_is = omega arith;
}

-- a number that is written is put
pub put_one : {s t : List ℕ} {at n v next : ℕ} → Written s t at n v next → Put s t at (bits_n n v) next
put_one {n} {v} w = record {
  bytes_are = w.bytes_are;
  bits_are = w.bits_are;
  long = w.long;
  next_is = rw (length_bits_n n v) w.next_is;
}

-- the same bits under another name
pub put_as : {s t : List ℕ} {at next : ℕ} {xs ys : List Bool} → xs ≡ ys → Put s t at xs next → Put s t at ys next
put_as e p = rw e at p

-- bits that are put, and more behind them
pub put_then : {s t u : List ℕ} {at mid next : ℕ} {xs ys : List Bool} → Put s t at xs mid → Put t u mid ys next → at + length xs + length ys ≤ 8 * length s
    → Put s u at (xs ++ ys) next
put_then {s} {t} {at} {mid} {xs} {ys} a b h =
    let lb : length (bits_of s) ≡ 8 * length s = length_bits_of s in
    let la : length (xs ++ ys) ≡ length xs + length ys = length-append xs ys in
    let e : written (bits_of t) mid ys ≡ written (bits_of s) at (xs ++ ys) =
    rw (a.bits_are, a.next_is) (writes_join (bits_of s) at xs (omega arith) ys) in
    record {
      bytes_are = b.bytes_are ∙ rw (e, a.long);
      bits_are = b.bits_are ∙ e;
      long = b.long ∙ a.long;
      next_is = omega arith;
    }

-- where there is room for both, there is for the first
pub reaches_first : {s : List ℕ} {at : ℕ} (xs ys : List Bool) → Reaches s at (length (xs ++ ys)) → Reaches s at (length xs)
reaches_first xs ys r =
    let e : length (xs ++ ys) ≡ length xs + length ys = length-append xs ys in
    record { few = r.few; room = omega arith }

-- and behind the first, once it is put, for the other
pub reaches_rest : {s t : List ℕ} {at mid : ℕ} (xs ys : List Bool) → Reaches s at (length (xs ++ ys)) → Put s t at xs mid → Reaches t mid (length ys)
reaches_rest {s} {t} xs ys r p =
    let e : length (xs ++ ys) ≡ length xs + length ys = length-append xs ys in
    let l : length t ≡ length s = p.long in
    record { few = omega arith; room = omega arith }

-- both are put, where there is room for both
pub put_both : {s t u : List ℕ} {at mid next : ℕ} {xs ys : List Bool} → Reaches s at (length (xs ++ ys)) → Put s t at xs mid → Put t u mid ys next
    → Put s u at (xs ++ ys) next
put_both {xs} {ys} r a b =
    let e : length (xs ++ ys) ≡ length xs + length ys = length-append xs ys in
    put_then a b (omega arith)
