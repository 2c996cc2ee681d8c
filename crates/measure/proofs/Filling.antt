-- The bits behind the last field: whether one of them is set, and the form in the first byte.
-- Assumes nothing.
use mathlib.Core.Path.{◌≡◌, refl, sym}
use mathlib.Core.Bool.{Bool, true, false, not}
use mathlib.Core.List.{List, [], ◌∷◌}
use Prim.Native.Nat.{ℕ, ◌+◌, ◌-◌, ◌*◌, ◌^◌, ◌≤◌, ◌<◌}
use native.Mathlib.Omega.{arith}
use borrow.Author.Tests.{lt-ltb}
use mir.Syntax.{w8}
use mir.Val.{Fits}
use lib.Dec.{ltb, eqb}
use lib.ListN.{length, take, drop, get_or, length-drop, drop_of_length-le}
use lib.Pow.{pow_pos}
use lib.Seq.{take_all}
use Rattle.model.specs.Lists.{all_of}
use Rattle.model.specs.Bits.{digit, num_of, bits_of, num_at, are_bytes}
use Rattle.model.specs.Image.{other_form}
use Rattle.model.proofs.Truth.{and_join}
use Rattle.model.proofs.Image.Bits.{length_bits_of}
use Rattle.model.proofs.Image.Packed.{form_is}
use Rattle.bits.specs.Cursor.{Taken}
use Rattle.measure.specs.Sizes.{strays_from}

-- bits spell 0 where none of them is set, and only there
set_spelled : (l : List Bool) → ltb 0 (num_of l) ≡ not (all_of not l)
unfolding num_of digit all_of
set_spelled [] = refl
set_spelled (false ∷ l) = let z : 0 * 2 ^ length l + num_of l ≡ num_of l = omega arith in rw z (set_spelled l)
set_spelled (true ∷ l) = let p = pow_pos (length l) in lt-ltb 0 (1 * 2 ^ length l + num_of l) (omega arith)

-- no bit is left
pub none_left : (s : List ℕ) (end : ℕ) → end ≤ 8 * length s → 8 * length s - end ≡ 0 → false ≡ strays_from s end
unfolding strays_from all_of
none_left s end h e =
    let k : length (bits_of s) ≤ end = rw (length_bits_of s) (omega arith) in
    rw (drop_of_length-le (bits_of s) k)

-- those that are left spell a number
pub some_left : (s : List ℕ) (end value next : ℕ) → Taken s end (8 * length s - end) value next → ltb 0 value ≡ strays_from s end
unfolding strays_from num_at
some_left s end value next t =
    let d : List Bool = drop end (bits_of s) in
    let k : length d ≤ 8 * length s - end = rw (length-drop end (bits_of s), length_bits_of s) (omega arith) in
    rw (t.value_is, take_all (8 * length s - end) d k) (set_spelled d)

-- the form is in the first four bits of the first byte
pub form_taken : (s : List ℕ) (value next : ℕ) → ((i : ℕ) → Fits w8 (get_or s i 0)) → 0 < length s → Taken (take 1 (drop 0 s)) 0 4 value next
    → not (eqb value 1) ≡ other_form s
unfolding other_form all_of
form_taken [] value next h k t = absurd (omega arith)
form_taken (b ∷ s) value next h k t =
    let e : are_bytes (b ∷ []) ≡ true = and_join (ltb b 256) true (lt-ltb b 256 (h 0).fits) refl in
    rw t.value_is (sym (form_is (b ∷ []) e (omega arith)))
