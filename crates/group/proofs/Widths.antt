-- Numbers of words: so many records of a width.
-- Assumes nothing.
use mathlib.Core.Path.{◌≡◌, ap, ◌∙◌}
use Prim.Native.Nat.{ℕ, ◌+◌, ◌*◌, ◌-◌, ◌≤◌}
use native.Mathlib.Nat.{mul-one, mul-add}
use native.Mathlib.Omega.{arith}

-- one record more takes a width more
pub width_more : (width i : ℕ) → width * (i + 1) ≡ width * i + width
width_more width i = mul-add width i 1 ∙ ap (λ (n : ℕ). width * i + n) (mul-one width)

-- n records take the words of the first i and of the others
pub width_split : (width i n : ℕ) → i ≤ n → width * n ≡ width * i + width * (n - i)
width_split width i n h = let e : n ≡ i + (n - i) = omega arith in ap (λ (m : ℕ). width * m) e ∙ mul-add width i (n - i)
