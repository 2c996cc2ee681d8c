-- How long numbers in decimal, and lines of them, are.
-- Assumes nothing.
use mathlib.Core.Path.{◌≡◌, refl, sym, ap}
use mathlib.Core.Bool.{Bool, true, false, cond}
use mathlib.Core.List.{List, [], ◌∷◌, ◌++◌, append_assoc, append-nil}
use Prim.Native.Nat.{ℕ, zero, suc, ◌+◌, ◌*◌, ◌/◌, ◌%◌, ◌≤◌, ◌<◌}
use native.Mathlib.Omega.{arith}
use borrow.Author.Tests.{lt-ltb, le-ltb}
use lib.Dec.{ltb}
use lib.ListN.{length, length-append}
use Rattle.model.specs.Desk.{digits, decimal, numbers, line}

-- a number below ten has one digit
pub digits_one : (most n : ℕ) → n < 10 → digits (suc most) n ≡ (48 + n) ∷ []
unfolding digits
digits_one most n h = rw (lt-ltb n 10 h)

-- any other has the digits of its tenth, and one more
pub digits_more : (most n : ℕ) → 10 ≤ n → digits (suc most) n ≡ digits most (n / 10) ++ ((48 + n % 10) ∷ [])
unfolding digits
digits_more most n h = rw (le-ltb n 10 h)

-- a number in at most so many digits has no more than those
pub digits_length : (most n : ℕ) → length (digits most n) ≤ most
unfolding digits
digits_length zero n = omega arith
digits_length (suc most) n = by_test (ltb n 10) (digits_length most (n / 10))
  where
    by_test : (b : Bool) → length (digits most (n / 10)) ≤ most
        → length (cond b ((48 + n) ∷ []) (digits most (n / 10) ++ ((48 + n % 10) ∷ []))) ≤ suc most
    by_test true h = omega arith
    by_test false h = rw (length-append (digits most (n / 10)) ((48 + n % 10) ∷ [])) (omega arith)

-- numbers, each behind a space, with no end of line
unfoldable pub spaced : List ℕ → List ℕ
spaced [] = []
spaced (n ∷ l) = 32 ∷ (decimal n ++ spaced l)

-- numbers, and more numbers
pub spaced_append : (a b : List ℕ) → spaced (a ++ b) ≡ spaced a ++ spaced b
unfolding spaced
spaced_append [] b = refl
spaced_append (n ∷ a) b = ap (λ (l : List ℕ). 32 ∷ l) (rw (spaced_append a b) (sym (append_assoc (decimal n) (spaced a) (spaced b))))

-- one number
pub spaced_one : (n : ℕ) → spaced (n ∷ []) ≡ (32 ∷ []) ++ digits 10 n
unfolding spaced decimal
spaced_one n = ap (λ (l : List ℕ). 32 ∷ l) (append-nil (digits 10 n))

-- the end of the line stands behind the last number
pub numbers_spaced : (l : List ℕ) → numbers l ≡ spaced l ++ (10 ∷ [])
unfolding numbers spaced
numbers_spaced [] = refl
numbers_spaced (n ∷ l) = ap (λ (k : List ℕ). 32 ∷ k) (rw (numbers_spaced l) (sym (append_assoc (decimal n) (spaced l) (10 ∷ []))))

-- each number takes at most eleven bytes
pub spaced_length : (l : List ℕ) → length (spaced l) ≤ 11 * length l
unfolding spaced decimal
spaced_length [] = omega arith
spaced_length (n ∷ l) =
    let a : length (digits 10 n ++ spaced l) ≡ length (digits 10 n) + length (spaced l) = length-append (digits 10 n) (spaced l) in
    let d : length (digits 10 n) ≤ 10 = digits_length 10 n in
    let r : length (spaced l) ≤ 11 * length l = spaced_length l in
    omega arith

-- and the end of the line one
pub numbers_length : (l : List ℕ) → length (numbers l) ≤ 11 * length l + 1
numbers_length l = rw (numbers_spaced l, length-append (spaced l) (10 ∷ [])) (omega (arith, spaced_length l))

-- a line of at most five numbers has at most 57 bytes
pub line_length : (letter : ℕ) (l : List ℕ) → length l ≤ 5 → length (line letter l) ≤ 57
line_length letter l h = omega (arith, numbers_length l)
