-- The digits of a number are right: they say the number, they are digits, and the first is 0 only of the number 0.
-- Assumes nothing.
use mathlib.Core.Path.{◌≡◌, refl, ap}
use mathlib.Core.List.{List, [], ◌∷◌, ◌++◌}
use mathlib.Core.Logic.{◌⊎◌, inl, ⊎_elim}
use Prim.Native.Nat.{ℕ, zero, suc, ◌+◌, ◌-◌, ◌*◌, ◌/◌, ◌%◌, ◌^◌, ◌≤◌, ◌<◌}
use native.Mathlib.Nat.{pow-suc}
use native.Mathlib.Omega.{arith}
use native.Mathlib.Decide.{dec_lt}
use lib.ListN.{length, get_or, length-append, get_or-append}
use Rattle.model.specs.Desk.{digits, decimal}
use Rattle.model.specs.Lists.{In}
use Rattle.model.proofs.Truth.{in_cons, in_append}
use Rattle.lines.specs.Decimal.{value_from, value_of}
use Rattle.lines.proofs.Lengths.{digits_one, digits_more}

-- one digit more is ten times the number, and that digit
value_last : (v : ℕ) (l : List ℕ) (d : ℕ) → value_from v (l ++ (d ∷ [])) ≡ 10 * value_from v l + (d - 48)
unfolding value_from
value_last v [] d = refl
value_last v (b ∷ l) d = value_last (10 * v + (b - 48)) l d

-- a tenth has one digit less
tenth_small : (most n : ℕ) → n < 10 ^ suc most → n / 10 < 10 ^ most
tenth_small most n h = let e : 10 ^ suc most ≡ 10 ^ most * 10 = pow-suc 10 most in omega arith

-- a number other than 0 takes a digit
room_some : (most n : ℕ) → n < 10 ^ most → 0 < n → 0 < most
room_some zero n h k = omega arith
room_some (suc most) n h k = omega arith

-- the digits of a number say that number, where there is room for all of them
pub digits_read : (most n : ℕ) → n < 10 ^ most → value_of (digits most n) ≡ n
unfolding value_of value_from digits
digits_read zero n h = omega arith
digits_read (suc most) n h = elim (dec_lt n 10) [
  | yes l ↦ rw (digits_one most n l) (omega arith)
  | no l ↦
      let k : 10 ≤ n = omega arith in
      let e : value_from 0 (digits most (n / 10)) ≡ n / 10 = digits_read most (n / 10) (tenth_small most n h) in
      rw (digits_more most n k, value_last 0 (digits most (n / 10)) (48 + n % 10), e) (omega arith)
]

-- a digit by itself
digit_alone : {d : ℕ} (m : ℕ) → m < 10 → In d ((48 + m) ∷ []) → (48 ≤ d) × (d ≤ 57)
digit_alone {d} m h i = go (in_cons i)
  where
    go : (d ≡ 48 + m) ⊎ In d [] → (48 ≤ d) × (d ≤ 57)
    go (inl e) = omega arith
    go (mathlib.Core.Logic.inr never) = elim never [ ]

-- each of them is one of the ten digits
pub digits_digits : (most n : ℕ) {d : ℕ} → In d (digits most n) → (48 ≤ d) × (d ≤ 57)
unfolding digits
digits_digits (suc most) n {d} i = elim (dec_lt n 10) [
  | yes l ↦ digit_alone n l (rw (digits_one most n l) at i)
  | no l ↦
      let k : 10 ≤ n = omega arith in
      ⊎_elim (λ j. digits_digits most (n / 10) j) (λ j. digit_alone (n % 10) (omega arith) j) (in_append (digits most (n / 10)) (rw (digits_more most n k) at i))
]
digits_digits zero n {d = d} i = elim i [ ]

-- a number that may have a digit has one
pub digits_some : (most n : ℕ) → 0 < most → 0 < length (digits most n)
digits_some (suc most) n h = elim (dec_lt n 10) [
  | yes l ↦ rw (digits_one most n l) (omega arith)
  | no l ↦ let k : 10 ≤ n = omega arith in rw (digits_more most n k, length-append (digits most (n / 10)) ((48 + n % 10) ∷ [])) (omega arith)
]
digits_some zero n h = elim h [ ]

-- the first of them is 0 only of the number 0
first_digit : (most n : ℕ) → n < 10 ^ most → get_or (digits most n) 0 0 ≡ 48 → n ≡ 0
unfolding digits
first_digit zero n h e = omega arith
first_digit (suc most) n h e = elim (dec_lt n 10) [
  | yes l ↦ let f : get_or ((48 + n) ∷ []) 0 0 ≡ 48 = rw (digits_one most n l) at e in omega arith
  | no l ↦
      let k : 10 ≤ n = omega arith in
      let t : n / 10 < 10 ^ most = tenth_small most n h in
      let some : 0 < length (digits most (n / 10)) = digits_some most (n / 10) (room_some most (n / 10) t (omega arith)) in
      let f : get_or (digits most (n / 10)) 0 0 ≡ 48 = rw (digits_more most n k, get_or-append (digits most (n / 10)) ((48 + n % 10) ∷ []) 0 0 some) at e in
      let z : n / 10 ≡ 0 = first_digit most (n / 10) t f in
      omega arith
]

-- A number in decimal, of at most ten digits, says that number.
pub decimal_read : (n : ℕ) → n < 10 ^ 10 → value_of (decimal n) ≡ n
unfolding decimal
decimal_read n h = digits_read 10 n h

-- Each byte of a number in decimal is one of the ten digits.
pub decimal_digits : (n : ℕ) {d : ℕ} → In d (decimal n) → (48 ≤ d) × (d ≤ 57)
unfolding decimal
decimal_digits n i = digits_digits 10 n i

-- A number in decimal has a digit.
pub decimal_some : (n : ℕ) → 0 < length (decimal n)
unfolding decimal
decimal_some n = digits_some 10 n (omega arith)

-- Only the number 0 begins with the digit 0.
pub decimal_first : (n : ℕ) (l : List ℕ) → n < 10 ^ 10 → decimal n ≡ 48 ∷ l → n ≡ 0
unfolding decimal
decimal_first n l h e = first_digit 10 n h (ap (λ (k : List ℕ). get_or k 0 0) e)
