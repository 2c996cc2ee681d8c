-- No line of a request is `R 10`.
-- Assumes nothing.
use mathlib.Core.Path.{◌≡◌, refl, sym, ap}
use mathlib.Core.Bool.{Bool, true, false, cond}
use mathlib.Core.List.{List, [], ◌∷◌}
use mathlib.Core.Logic.{◌⊎◌, inl, inr}
use Prim.Native.Nat.{ℕ}
use native.Mathlib.Omega.{arith}
use lib.Dec.{eqb, ltb}
use lib.ListN.{length, get_or, take}
use Rattle.model.specs.Policy.{Policy}
use Rattle.model.specs.Contain.{contained}
use Rattle.model.specs.Refusal.{First, now, next, Answer, refused, accepted}
use Rattle.model.specs.Request.{Request, Verdict, grant, deny, verdict, request_lines, decision}
use Rattle.model.specs.Explain.{Row, rows}
use Rattle.model.specs.Bits.{bits_of, num_at}
use Rattle.model.specs.Desk.{digits, decimal, numbers, line, R, request_in, deny_line, answer_line, request_line}
use Rattle.model.proofs.Truth.{clash}
use Rattle.model.proofs.Refusals.{refused_first}
use Rattle.desk.specs.Printing.{first_line}

-- the line that is never printed
abbrev pub ten : List ℕ
ten = line R (10 ∷ [])

-- what stands at a place of equal texts is equal
same_at : (i : ℕ) {a b : List ℕ} → a ≡ b → get_or a i 0 ≡ get_or b i 0
same_at i e = ap (λ (l : List ℕ). get_or l i 0) e

-- on memory that holds a table a request is refused with 2, 4 or 5
pub request_numbers : (p : Policy) (q : Request) {n : ℕ} → First n (request_lines true p q) → (n ≡ 2) ⊎ ((n ≡ 4) ⊎ (n ≡ 5))
request_numbers p q (now e h) = absurd (clash h refl)
request_numbers p q (next a (now e h)) = inl (sym e)
request_numbers p q (next a (next b (now e h))) = inr (inl (sym e))
request_numbers p q (next a (next b (next c (now e h)))) = inr (inr (sym e))
request_numbers p q {n = n} (next a (next b (next c (next _ never)))) = elim never [ ]

-- none of which is written as 10 is
number_apart : (n : ℕ) → (n ≡ 2) ⊎ ((n ≡ 4) ⊎ (n ≡ 5)) → line R (n ∷ []) ≡ ten → ⊥
unfolding numbers decimal digits
number_apart n (inl e) f = let z = same_at 2 (rw e at f) in omega arith
number_apart n (inr (inl e)) f = let z = same_at 2 (rw e at f) in omega arith
number_apart n (inr (inr e)) f = let z = same_at 2 (rw e at f) in omega arith

-- the line of a deny has another letter
deny_apart : (l : List Row) → deny_line l ≡ ten → ⊥
unfolding deny_line
deny_apart [] f = let z = same_at 0 f in omega arith
deny_apart (r ∷ l) f = let z = same_at 0 f in omega arith

-- the line of a decision
decision_apart : (why : List Row) (p : Policy) (q : Request) (a : Answer Verdict) → decision (contained p) true p q ≡ a → answer_line why a ≡ ten → ⊥
unfolding answer_line decision
decision_apart why p q (refused n) e f = number_apart n (request_numbers p q (refused_first (verdict (contained p) p q) (request_lines true p q) e)) f
decision_apart why p q (accepted (grant k)) e f = let z = same_at 0 f in omega arith
decision_apart why p q (accepted deny) e f = deny_apart why f

-- one of two lines
either_apart : (b : Bool) (x y : List ℕ) → (x ≡ ten → ⊥) → (y ≡ ten → ⊥) → cond b x y ≡ ten → ⊥
either_apart true x y h k = h
either_apart false x y h k = k

-- the line of a first request
pub first_apart : (p : Policy) (s : List ℕ) → first_line p s ≡ ten → ⊥
unfolding first_line request_line numbers decimal digits
first_apart p s =
    let l = bits_of (take 5 s) in
    either_apart (eqb (length s) 0) _ _ (λ f. let z = same_at 0 f in omega arith)
    (either_apart (ltb (length s) 5) _ _ (λ f. let z = same_at 3 f in omega arith)
    (either_apart (eqb (num_at l 39 1) 1) _ _ (λ f. let z = same_at 2 f in omega arith)
    (λ f. decision_apart (rows (contained p) p (request_in l)) p (request_in l) _ refl f)))
