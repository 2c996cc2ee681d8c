-- What each function that puts text has at hand at a step, and what it needs there.
-- Assumes nothing.
use mathlib.Core.Path.{◌≡◌, refl, sym}
use mathlib.Core.List.{List, [], ◌∷◌, ◌++◌}
use Prim.Native.Nat.{ℕ, zero, suc, ◌+◌, ◌-◌, ◌*◌, ◌/◌, ◌%◌, ◌≤◌, ◌<◌}
use native.Mathlib.Numerals.{add-one}
use native.Mathlib.Omega.{arith}
use lib.ListN.{length, take, get_or, set}
use lib.Seq.{take-suc, take_all, length-take-le}
use Rattle.model.specs.Desk.{digits, numbers, line}
use Rattle.lines.specs.Typing.{Typed}
use Rattle.lines.proofs.Texts.{typed_none, typed_one, typed_then, typed_as}
use Rattle.lines.proofs.Lengths.{digits_one, digits_more, digits_length, spaced, spaced_append, spaced_one, numbers_spaced, spaced_length, line_length}

-- where no digit may be put, none is
pub digits_none : (s : List ℕ) (at most n : ℕ) → most ≡ 0 → Typed (digits most n) at s s at
unfolding digits
digits_none s at most n e = rw e (typed_none s at)

-- the one digit of a number below ten
pub digit_put : (s : List ℕ) (at most n : ℕ) → (most ≡ 0 → ⊥) → at + most ≤ length s → n < 10 → Typed (digits most n) at s (set s at (48 + n)) (at + 1)
digit_put s at zero n some h l = absurd (some refl)
digit_put s at (suc most) n some h l = typed_as (sym (digits_one most n l)) (typed_one s at (48 + n) (omega arith))

-- the last digit of any other, behind the digits of its tenth
pub last_put : {s t : List ℕ} {at next : ℕ} (most n : ℕ) → (most ≡ 0 → ⊥) → at + most ≤ length s → 10 ≤ n → Typed (digits (most - 1) (n / 10)) at s t next
    → Typed (digits most n) at s (set t next (48 + n % 10)) (next + 1)
last_put zero n some h l p = absurd (some refl)
last_put {s} {t} {at} {next} (suc most) n some h l p =
    let e : suc most - 1 ≡ most = omega arith in
    let d : length (digits most (n / 10)) ≤ most = digits_length most (n / 10) in
    let q : Typed (digits most (n / 10)) at s t next = rw e at p in
    typed_as (sym (digits_more most n l)) (typed_then (omega arith) q (typed_one t next (48 + n % 10) (omega arith)))

-- Numbers, each behind a space: the first i of ns.
module _ {s : List ℕ} {at : ℕ} (ns : List ℕ) where
  -- before the first turn
  pub numbers_start : (i : ℕ) → i ≡ 0 → Typed (spaced (take i ns)) at s s at
  unfolding spaced
  numbers_start i e = rw e (typed_none s at)

  -- a turn: a space and one number more
  pub numbers_turn : {t u v : List ℕ} {next behind next' : ℕ} (i : ℕ) → i < length ns → at + 11 * length ns + 1 ≤ length s
      → Typed (spaced (take i ns)) at s t next → Typed (32 ∷ []) next t u behind → Typed (digits 10 (get_or ns i 0)) behind u v next'
      → Typed (spaced (take (i + 1) ns)) at s v next'
  numbers_turn {t} {u} {v} {next} {behind} {next'} i h room p q r =
      let m : length (take i ns) ≡ i = length-take-le i ns (omega arith) in
      let l : length (spaced (take i ns)) ≤ 11 * length (take i ns) = spaced_length (take i ns) in
      let one : Typed ((32 ∷ []) ++ digits 10 (get_or ns i 0)) next t v next' = typed_then (omega arith) q r in
      let e : spaced (take (i + 1) ns) ≡ spaced (take i ns) ++ ((32 ∷ []) ++ digits 10 (get_or ns i 0)) =
      rw (add-one i, take-suc ns i 0 h, spaced_append (take i ns) (get_or ns i 0 ∷ []), spaced_one (get_or ns i 0)) in
      typed_as (sym e) (typed_then (omega arith) p one)

  -- after the last turn, with the end of the line
  pub numbers_end : {t u : List ℕ} {next next' : ℕ} (i : ℕ) → length ns ≤ i → at + 11 * length ns + 1 ≤ length s
      → Typed (spaced (take i ns)) at s t next → Typed (10 ∷ []) next t u next' → Typed (numbers ns) at s u next'
  numbers_end i h room p q =
      let a : take i ns ≡ ns = take_all i ns h in
      let l : length (spaced ns) ≤ 11 * length ns = spaced_length ns in
      typed_as (sym (numbers_spaced ns)) (typed_then (omega arith) (rw a at p) q)

-- A letter, and the numbers behind it, are a line.
pub line_put : {s t u : List ℕ} {mid next : ℕ} (letter : ℕ) (ns : List ℕ) → 64 ≤ length s → Typed (letter ∷ []) 0 s t mid → Typed (numbers ns) mid t u next
    → Typed (line letter ns) 0 s u next
line_put letter ns h p q = typed_then (omega arith) p q

-- and one of at most five numbers is at most 57 bytes long
pub line_short : {s t u : List ℕ} {mid next : ℕ} (letter : ℕ) (ns : List ℕ) → length ns ≤ 5 → Typed (letter ∷ []) 0 s t mid → Typed (numbers ns) mid t u next
    → next ≤ 57
line_short letter ns h p q = omega (arith, line_length letter ns h)
