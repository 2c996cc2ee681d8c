-- Text in front of the lent bytes, and in front of the bytes from a place on.
-- Assumes nothing.
use mathlib.Core.Path.{◌≡◌, ap}
use mathlib.Core.List.{List, [], ◌++◌, append-nil}
use Prim.Native.Nat.{ℕ, ◌+◌, ◌-◌, ◌≤◌}
use native.Mathlib.Omega.{arith}
use borrow.Rule.Slice.PartMut.{post_of, same_len_mid}
use lib.ListN.{length, take, drop, length-drop, drop_of_length-le}
use lib.Seq.{take_all, drop-drop}
use Rattle.lines.specs.Typing.{Typed}

-- text put at the first place: as many bytes as it has, and the bytes behind them as they were
pub in_front : {text s t : List ℕ} {n : ℕ} → Typed text 0 s t n → (n ≡ length text) × (t ≡ text ++ drop (length text) s)
in_front {text} w = let z : 0 + length text ≡ length text = omega arith in (omega arith, rw z at w.bytes_are)

-- The bytes from a place on, lent as a part.
module _ (s : List ℕ) (at : ℕ) where
  -- all bytes from there on
  pub part_is : take (length s - at) (drop at s) ≡ drop at s
  part_is = take_all (length s - at) (drop at s) (omega (arith, length-drop at s))

  -- none is behind them
  none_behind : post_of at (length s - at) s ≡ []
  none_behind = let h : length (drop at s) ≤ length s - at = omega (arith, length-drop at s) in drop_of_length-le (drop at s) h

  -- text put in front of them is put at the place
  pub at_place : {text part : List ℕ} {n : ℕ} → Typed text 0 (take (length s - at) (drop at s)) part n
      → Typed text at s (take at s ++ (part ++ post_of at (length s - at) s)) (at + n)
  at_place {text} {part} {n} w =
      let v : Typed text 0 (drop at s) part n = rw part_is at w in
      let b : part ++ post_of at (length s - at) s ≡ text ++ drop (at + length text) s =
      rw (none_behind, append-nil part, (in_front v).1, drop-drop (length text) at s) in
      record {
        bytes_are = ap (λ (m : List ℕ). take at s ++ m) b;
        next_is = omega (arith, (in_front w).0);
        long = same_len_mid at (length s - at) s part w.long;
      }
