-- A result is known by what it answers; so the contract of `new` allows one.
-- Assumes nothing.
use mathlib.Core.Path.{◌≡◌, refl, sym, ap, ◌∙◌}
use mathlib.Core.List.{List}
use Prim.Native.Nat.{ℕ}
use native.Mathlib.Omega.{arith}
use Rattle.std.specs.Prelude.{Result, Ok, Err}
use Rattle.answer.specs.declared.Refusal.{Refusal}
use Rattle.answer.specs.Answers as answers
use Rattle.answer.proofs.Told.{one_number}
use Rattle.table.specs.Answers.{told, Left, left, new_table}

-- what cannot be
pub never : {A : Type 0} → ◌≡◌ {A = ℕ} 0 1 → A
never e = absurd (omega arith)

-- a result is known by what it answers
pub one_outcome : {A : Type 0} (r s : Result (Unit {0}) Refusal) (a b : A) → told r a ≡ told s b → r ≡ s
unfolding answers.told
one_outcome (Ok x) (Ok y) a b e = refl
one_outcome (Ok x) (Err s) a b e = never (cc)
one_outcome (Err r) (Ok y) a b e = never (cc)
one_outcome (Err r) (Err s) a b e = let n : answers.number_of r ≡ answers.number_of s = cc in ap Err (one_number r s n)

-- one result, and the same words
pub one_left : {r s : Result (Unit {0}) Refusal} {l m : List ℕ} → left r l ≡ left s m → (r ≡ s) × (l ≡ m)
one_left {r} {s} {l} {m} e = (one_outcome r s l m (ap (λ (b : Left). b.answers) e), ap (λ (b : Left). b.words) e)

-- `new` has one result and leaves one memory
pub new_unique : (words : List ℕ) {r s : Result (Unit {0}) Refusal} {l m : List ℕ} → left r l ≡ new_table words → left s m ≡ new_table words → (r ≡ s) × (l ≡ m)
new_unique words p q = one_left (p ∙ sym q)
