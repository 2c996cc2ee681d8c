-- The code of an answer tells the answer: among the answers that calls give, two with the same code are the same.
-- Assumes nothing.
use mathlib.Core.Path.{◌≡◌, refl, ap, ap₂}
use mathlib.Core.Bool.{Bool, true, false}
use Prim.Native.Nat.{ℕ, ◌+◌, ◌*◌, ◌^◌, ◌≤◌, ◌<◌}
use native.Mathlib.Omega.{arith}
use Rattle.model.specs.Refusal.{Answer, refused, accepted}
use Rattle.model.specs.Request.{Verdict, grant, deny}
use Rattle.model.specs.Explain.{Explained}
use Rattle.exports.specs.Codes.{code, verdict_code, decision_code, yes_code, save_code, explain_code}
use Rattle.exports.specs.Claims.{Alike, both_accepted, both_refused}
use Rattle.exports.proofs.Numbered.{Numbered}

-- a verdict that a request can get: denied, or granted by alternative 1 or 2
abbrev pub Given : Verdict → Type 0
Given v = (k : ℕ) → v ≡ grant k → (1 ≤ k) × (k ≤ 2)

-- a decision that a call can answer
pub record Decided (a : Answer Verdict) : Type 0 where
  pub numbered : Numbered a
  pub given : (v : Verdict) → a ≡ accepted v → Given v

-- a save that a call can answer: a length of 32 bits
pub record Sized (a : Answer ℕ) : Type 0 where
  pub numbered : Numbered a
  pub short : (n : ℕ) → a ≡ accepted n → n < 2 ^ 32

-- an explanation that a call can answer: a number of rows of 32 bits
pub record Rowed (a : Answer Explained) : Type 0 where
  pub numbered : Numbered a
  pub given : (e : Explained) → a ≡ accepted e → Given e.verdict
  pub few : (e : Explained) → a ≡ accepted e → e.count < 2 ^ 32

-- the code of a call that changes something tells whether it was accepted, and else its number
pub code_tells : {A B : Type 0} (a : Answer A) (b : Answer B) → Numbered a → Numbered b → code a ≡ code b → Alike a b
unfolding code
code_tells (accepted x) (accepted y) s t e = both_accepted
code_tells (accepted x) (refused n) s t e = let least = (t n refl).least in absurd (omega arith)
code_tells (refused n) (accepted y) s t e = let least = (s n refl).least in absurd (omega arith)
code_tells (refused m) (refused n) s t e = rw e both_refused

-- the code of a verdict tells the verdict
verdict_tells : (v w : Verdict) → Given v → Given w → verdict_code v ≡ verdict_code w → v ≡ w
unfolding verdict_code
verdict_tells (grant k) (grant j) s t e = ap grant e
verdict_tells (grant k) deny s t e = let least = (s k refl).0 in absurd (omega arith)
verdict_tells deny (grant j) s t e = let least = (t j refl).0 in absurd (omega arith)
verdict_tells deny deny s t e = refl

-- the code of a verdict is at most 2
verdict_small : (v : Verdict) → Given v → verdict_code v ≤ 2
unfolding verdict_code
verdict_small (grant k) s = (s k refl).1
verdict_small deny s = omega arith

-- the code of a decision tells the decision
pub decision_tells : (a b : Answer Verdict) → Decided a → Decided b → decision_code a ≡ decision_code b → a ≡ b
unfolding decision_code
decision_tells (accepted v) (accepted w) s t e = ap accepted (verdict_tells v w (s.given v refl) (t.given w refl) e)
decision_tells (accepted v) (refused n) s t e = let small = verdict_small v (s.given v refl) in absurd (omega arith)
decision_tells (refused m) (accepted w) s t e = let small = verdict_small w (t.given w refl) in absurd (omega arith)
decision_tells (refused m) (refused n) s t e = let q : m ≡ n = omega (arith, e) in ap refused q

-- the code of a question tells its answer
pub yes_tells : (a b : Answer Bool) → yes_code a ≡ yes_code b → a ≡ b
unfolding yes_code
yes_tells (accepted true) (accepted true) e = refl
yes_tells (accepted true) (accepted false) e = absurd (omega (arith, e))
yes_tells (accepted true) (refused n) e = absurd (omega (arith, e))
yes_tells (accepted false) (accepted true) e = absurd (omega (arith, e))
yes_tells (accepted false) (accepted false) e = refl
yes_tells (accepted false) (refused n) e = absurd (omega (arith, e))
yes_tells (refused m) (accepted true) e = absurd (omega (arith, e))
yes_tells (refused m) (accepted false) e = absurd (omega (arith, e))
yes_tells (refused m) (refused n) e = let q : m ≡ n = omega (arith, e) in ap refused q

-- the code of a save tells its length or its number
pub save_tells : (a b : Answer ℕ) → Sized a → Sized b → save_code a ≡ save_code b → a ≡ b
unfolding save_code
save_tells (accepted m) (accepted n) s t e = ap accepted e
save_tells (accepted m) (refused n) s t e = let short = s.short m refl in let least = (t.numbered n refl).least in absurd (omega arith)
save_tells (refused m) (accepted n) s t e = let short = t.short n refl in let least = (s.numbered m refl).least in absurd (omega arith)
save_tells (refused m) (refused n) s t e = let q : m ≡ n = omega (arith, e) in ap refused q

-- a number of 64 bits tells its high half
high_half : (x y m n : ℕ) → m < 2 ^ 32 → n < 2 ^ 32 → x * 4294967296 + m ≡ y * 4294967296 + n → x ≡ y
high_half x y m n s t e = omega arith

-- and its low half
low_half : (x y m n : ℕ) → m < 2 ^ 32 → n < 2 ^ 32 → x * 4294967296 + m ≡ y * 4294967296 + n → m ≡ n
low_half x y m n s t e = omega arith

-- the code of an explanation tells its verdict, its number of rows, or its number
pub explain_tells : (a b : Answer Explained) → Rowed a → Rowed b → explain_code a ≡ explain_code b → a ≡ b
unfolding explain_code
explain_tells (accepted e) (accepted f) s t h =
    let m = s.few e refl in
    let n = t.few f refl in
    let v = verdict_tells e.verdict f.verdict (s.given e refl) (t.given f refl) (high_half (verdict_code e.verdict) (verdict_code f.verdict) e.count f.count m n h) in
    let c = low_half (verdict_code e.verdict) (verdict_code f.verdict) e.count f.count m n h in
    ap accepted (ap₂ (λ (v : Verdict) (c : ℕ). record { verdict = v; count = c }) v c)
explain_tells (accepted e) (refused n) s t h =
    let m = s.few e refl in let small = verdict_small e.verdict (s.given e refl) in absurd (omega (arith, h))
explain_tells (refused m) (accepted f) s t h =
    let n = t.few f refl in let small = verdict_small f.verdict (t.given f refl) in absurd (omega (arith, h))
explain_tells (refused m) (refused n) s t h = let q : m ≡ n = omega (arith, h) in ap refused q
