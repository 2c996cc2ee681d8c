-- How many of a list that is told off pass a test, as far as a loop has come.
-- Assumes nothing.
use mathlib.Core.Path.{◌≡◌, refl, ◌∙◌}
use mathlib.Core.Bool.{Bool, true, false, cond}
use mathlib.Core.List.{List, [], ◌∷◌}
use Prim.Native.Nat.{ℕ, zero, suc, ◌+◌, ◌-◌, ◌≤◌, ◌<◌}
use native.Mathlib.Omega.{arith}
use mir.Syntax.{w64}
use mir.Val.{Fits}
use mir.Facts.{Fits-le, Fits-lit}
use lib.ListN.{length}
use Rattle.model.specs.Lists.{those, tabulate}
use Rattle.std.specs.Int.{from_bool}
use Rattle.model.specs.Bits.{digit}
use Rattle.model.proofs.Image.Bits.{digit_lt}

-- one more at the front, where it passes
length_front : {A : Type 0} (b : Bool) (a : A) (l : List A) → length (cond b (a ∷ l) l) ≡ digit b + length l
unfolding digit
length_front true a l = omega arith
length_front false a l = omega arith

-- 1 for true, 0 for false
pub as_digit : (b : Bool) → from_bool b ≡ digit b
unfolding digit
as_digit true = refl
as_digit false = refl

-- one more at the end
pub those_more : {A : Type 0} (t : A → Bool) (f : ℕ → A) (n : ℕ) → length (those t (tabulate (suc n) f)) ≡ length (those t (tabulate n f)) + digit (t (f n))
unfolding those tabulate
those_more t f zero = omega (arith, length_front (t (f 0)) (f 0) [])
those_more {A} t f (suc n) =
    let long : List A = those t (tabulate (suc n) (λ i. f (suc i))) in
    let short : List A = those t (tabulate n (λ i. f (suc i))) in
    let e = those_more t (λ i. f (suc i)) n in
    let a = length_front (t (f 0)) (f 0) long in
    let b = length_front (t (f 0)) (f 0) short in
    omega arith

-- n is the tally of all below x, of which the first is 1
pub record TallyTo (tally : ℕ → ℕ) (end x n : ℕ) : Type 0 where
  pub is : n ≡ tally (x - 1)
  pub some : 1 ≤ x
  pub most : x ≤ end
  pub small : end ≤ 512
  pub few : n < x

-- one more
pub tally_more : (tally : ℕ → ℕ) (end : ℕ) {x n : ℕ} (b : Bool) → tally (suc (x - 1)) ≡ tally (x - 1) + digit b → x < end → TallyTo tally end x n
    → {d : ℕ} → d ≡ digit b → TallyTo tally end (x + 1) (n + d)
tally_more tally end {x} {n} b s l k {d} e =
    let q : x + 1 - 1 ≡ suc (x - 1) = omega arith in
    let w : n + d ≡ tally (suc (x - 1)) = omega (arith, s, e, k.is) in
    record { is = rw q w; some = omega arith; most = omega arith; small = k.small; few = omega (arith, digit_lt b) }

-- the tally with one more is no greater than a number can be
pub tally_fits : {tally : ℕ → ℕ} {end x n : ℕ} → TallyTo tally end x n → (b : Bool) {d : ℕ} → d ≡ from_bool b → Fits w64 (n + d)
tally_fits {n = n} k b {d} e = let f : d ≡ digit b = e ∙ as_digit b in let l : n + d ≤ 512 = omega (arith, f, k.few, k.most, k.small, digit_lt b) in Fits-le l (Fits-lit tt)
