-- Text put among bytes: none, one letter, and text behind text.
-- Assumes nothing.
use mathlib.Core.Path.{◌≡◌, refl, sym, ◌∙◌}
use mathlib.Core.List.{List, [], ◌∷◌, ◌++◌, append_assoc}
use Prim.Native.Nat.{ℕ, ◌+◌, ◌≤◌}
use native.Mathlib.Nat.{add-zero, add_assoc}
use native.Mathlib.Numerals.{add-one}
use native.Mathlib.Omega.{arith}
use lib.ListN.{length, take, drop, set, length-append, length-set, take-append-drop}
use lib.Seq.{length-take-le, take_at, drop_at, drop-drop, set_split}
use Rattle.lines.specs.Typing.{Typed}

-- no text leaves the bytes as they are
pub typed_none : (s : List ℕ) (at : ℕ) → Typed [] at s s at
typed_none s at = record {
  bytes_are = rw (add-zero at) (sym (take-append-drop at s));
  next_is = omega arith;
  long = refl;
}

-- one letter
pub typed_one : (s : List ℕ) (at b : ℕ) → at + 1 ≤ length s → Typed (b ∷ []) at s (set s at b) (at + 1)
typed_one s at b h = record {
  bytes_are = rw (add-one at) (set_split s at b (omega arith));
  next_is = refl;
  long = length-set s at b;
}

-- text, and more text behind it, are both as one text
pub typed_then : {a b s t u : List ℕ} {at mid next : ℕ} → at + length a ≤ length s → Typed a at s t mid → Typed b mid t u next → Typed (a ++ b) at s u next
typed_then {a} {b} {s} {t} {u} {at} {mid} h p q =
    let fa : length (take at s ++ a) ≡ at + length a = rw (length-append (take at s) a, length-take-le at s (omega arith)) in
    let t-is : t ≡ (take at s ++ a) ++ drop (at + length a) s = p.bytes_are ∙ sym (append_assoc (take at s) a (drop (at + length a) s)) in
    let front : take (at + length a) t ≡ take at s ++ a = rw t-is (take_at (take at s ++ a) (drop (at + length a) s) (at + length a) fa) in
    let back : drop (at + length a) t ≡ drop (at + length a) s = rw t-is (drop_at (take at s ++ a) (drop (at + length a) s) (at + length a) fa) in
    let behind : drop (at + length a + length b) t ≡ drop (at + length (a ++ b)) s =
    rw (← drop-drop (length b) (at + length a) t, back, drop-drop (length b) (at + length a) s, length-append a b, add_assoc at (length a) (length b)) in
    let la : length (a ++ b) ≡ length a + length b = length-append a b in
    record {
      bytes_are = q.bytes_are ∙ rw (p.next_is, front, behind) (simp append_assoc);
      next_is = omega arith;
      long = q.long ∙ p.long;
    }

-- the same text under another name
pub typed_as : {a b s t : List ℕ} {at next : ℕ} → a ≡ b → Typed a at s t next → Typed b at s t next
typed_as e p = rw e at p
