-- What is read of the input: the forty bits of a request, and the length of the image.
-- Assumes nothing.
use mathlib.Core.Path.{◌≡◌, refl, sym, ◌∙◌}
use mathlib.Core.Bool.{Bool, true, false, cond}
use mathlib.Core.List.{List}
use Prim.Native.Nat.{ℕ, ◌+◌, ◌≤◌, ◌<◌}
use native.Mathlib.Omega.{arith}
use native.Mathlib.Decide.{dec_lt}
use borrow.Author.Tests.{lt-ltb, le-ltb, ltb-false}
use lib.Dec.{ltb}
use lib.ListN.{length}
use Rattle.model.specs.Bits.{bits_of}
use Rattle.model.specs.Desk.{request_in}
use Rattle.model.proofs.Truth.{clash}
use Rattle.bits.specs.Cursor.{Taken}
use Rattle.desk.specs.Printing.{image_length, is_short, wanted_bytes}

-- "process 8, operation 4, arguments 9, 9, 9": five numbers taken one behind another are the request
pub request_read : {s : List ℕ} {process operation first second third a b c d e : ℕ}
    → Taken s 0 8 process a → Taken s a 4 operation b → Taken s b 9 first c → Taken s c 9 second d → Taken s d 9 third e
    → record { process = process; operation = operation; first = first; second = second; third = third } ≡ request_in (bits_of s)
unfolding request_in
request_read p o x y z =
    rw (p.value_is, o.value_is, x.value_is, y.value_is, z.value_is, y.next_is, x.next_is, o.next_is, p.next_is)

-- where the length is not there, two bytes are wanted
pub no_length : (s : List ℕ) → length s < 2 → 2 ≡ wanted_bytes s
unfolding wanted_bytes
no_length s h = rw (lt-ltb (length s) 2 h)

-- where it is there, the image is wanted too
pub by_length : (s : List ℕ) {n : ℕ} → 2 ≤ length s → n ≡ image_length s → 2 + n ≡ wanted_bytes s
unfolding wanted_bytes
by_length s h e = rw (le-ltb (length s) 2 h, e)

-- bytes are too few for the length or the image exactly if they are fewer than are wanted
pub short_wanted : (s : List ℕ) → is_short s ≡ ltb (length s) (wanted_bytes s)
unfolding is_short wanted_bytes
short_wanted s = go (ltb (length s) 2) refl
  where
    go : (b : Bool) → ltb (length s) 2 ≡ b → cond b true (ltb (length s) (2 + image_length s)) ≡ ltb (length s) (cond b 2 (2 + image_length s))
    go true e = sym e
    go false e = refl

-- bytes that are not too few have the length and the image
pub enough : (s : List ℕ) → is_short s ≡ false → (2 ≤ length s) × (2 + image_length s ≤ length s)
unfolding is_short
enough s e = elim (dec_lt (length s) 2) [
  | yes l ↦ absurd (clash refl (rw (lt-ltb (length s) 2 l) at e))
  | no l ↦
      let h : 2 ≤ length s = omega (arith, l) in
      (h, ltb-false (length s) (2 + image_length s) (rw (le-ltb (length s) 2 h) at e))
]

-- as many bytes as are wanted have the length and the image
pub wanted_there : (s : List ℕ) {n : ℕ} → n ≡ wanted_bytes s → n ≤ length s → (is_short s ≡ false) × (n ≡ 2 + image_length s)
unfolding wanted_bytes
wanted_there s {n} e h =
    let f : is_short s ≡ false = short_wanted s ∙ rw (sym e) (le-ltb (length s) n h) in
    (f, rw (le-ltb (length s) 2 (enough s f).0) at e)
