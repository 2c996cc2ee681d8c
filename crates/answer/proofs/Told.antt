-- A result is known by what it answers, and a refusal by its number.
-- Assumes nothing.
use mathlib.Core.Path.{◌≡◌, refl, sym, ap, ◌∙◌}
use mathlib.Core.List.{[], ◌∷◌}
use Prim.Native.Nat.{ℕ, ◌≤◌}
use native.Mathlib.Omega.{arith}
use lib.ListN.{get_or}
use Rattle.std.specs.Prelude.{Result, Ok, Err}
use Rattle.model.specs.Refusal.{refused, accepted}
use Rattle.answer.specs.declared.Refusal.{Refusal}
use Rattle.answer.specs.declared.Refusal.TheVariants.{NoTable, OutOfRange, AlreadyThere, NotThere, WrongKind, IllFormed, ClosesCycle, OnlyAssignment, InUse, NoRoom, OtherForm, Misfit, BreaksRule, NamesWrong}
use Rattle.answer.specs.Answers.{number_of, told, IsRefused}

-- what cannot be
never : {A : Type 0} → ◌≡◌ {A = ℕ} 0 1 → A
never e = absurd (omega arith)

-- the refusal with a number
with_number : ℕ → Refusal
with_number n =
    get_or
    (
    NoTable ∷ NoTable ∷ OutOfRange ∷ AlreadyThere ∷ NotThere ∷ WrongKind ∷ IllFormed ∷ ClosesCycle ∷ OnlyAssignment ∷ InUse ∷ NoRoom ∷ OtherForm
    ∷ Misfit ∷ BreaksRule ∷ NamesWrong ∷ []
    )
    n NoTable

with_its_number : (r : Refusal) → with_number (number_of r) ≡ r
unfolding with_number
with_its_number NoTable = refl
with_its_number OutOfRange = refl
with_its_number AlreadyThere = refl
with_its_number NotThere = refl
with_its_number WrongKind = refl
with_its_number IllFormed = refl
with_its_number ClosesCycle = refl
with_its_number OnlyAssignment = refl
with_its_number InUse = refl
with_its_number NoRoom = refl
with_its_number OtherForm = refl
with_its_number Misfit = refl
with_its_number BreaksRule = refl
with_its_number NamesWrong = refl

-- no two refusals have one number
pub one_number : (r s : Refusal) → number_of r ≡ number_of s → r ≡ s
one_number r s e = sym (with_its_number r) ∙ ap with_number e ∙ with_its_number s

-- the numbers are 1 to 14
pub number_low : (r : Refusal) → 1 ≤ number_of r
number_low NoTable = omega arith
number_low OutOfRange = omega arith
number_low AlreadyThere = omega arith
number_low NotThere = omega arith
number_low WrongKind = omega arith
number_low IllFormed = omega arith
number_low ClosesCycle = omega arith
number_low OnlyAssignment = omega arith
number_low InUse = omega arith
number_low NoRoom = omega arith
number_low OtherForm = omega arith
number_low Misfit = omega arith
number_low BreaksRule = omega arith
number_low NamesWrong = omega arith

pub number_high : (r : Refusal) → number_of r ≤ 14
number_high NoTable = omega arith
number_high OutOfRange = omega arith
number_high AlreadyThere = omega arith
number_high NotThere = omega arith
number_high WrongKind = omega arith
number_high IllFormed = omega arith
number_high ClosesCycle = omega arith
number_high OnlyAssignment = omega arith
number_high InUse = omega arith
number_high NoRoom = omega arith
number_high OtherForm = omega arith
number_high Misfit = omega arith
number_high BreaksRule = omega arith
number_high NamesWrong = omega arith

-- no two results are told the same, where no two values are taken for the same
pub one_told : {T A : Type 0} (f : T → A) → ((x y : T) → f x ≡ f y → x ≡ y) → (r s : Result T Refusal) → told f r ≡ told f s → r ≡ s
unfolding told
one_told f one (Ok x) (Ok y) e = ap Ok (one x y (cc))
one_told f one (Ok x) (Err s) e = never (cc)
one_told f one (Err r) (Ok y) e = never (cc)
one_told f one (Err r) (Err s) e = let n : number_of r ≡ number_of s = cc in ap Err (one_number r s n)

-- what is told as a refusal with a number is one
pub refused_told : {T A : Type 0} (f : T → A) (r : Result T Refusal) {n : ℕ} → told f r ≡ refused n → IsRefused r n
unfolding told
refused_told f (Ok x) e = never (cc)
refused_told f (Err r) e = record { why = r; is = refl; its_number = cc }

-- a refusal with a number is told as one
pub told_refused : {T A : Type 0} (f : T → A) {r : Result T Refusal} {n : ℕ} → IsRefused r n → told f r ≡ refused n
unfolding told
told_refused f i = ap (told f) i.is ∙ ap refused i.its_number

-- what is told as accepted is, with a value that is taken for what was made
pub record IsAccepted {T A : Type 0} (f : T → A) (r : Result T Refusal) (made : A) : Type 0 where
  pub value : T
  pub is : r ≡ Ok value
  pub its_meaning : f value ≡ made

pub accepted_told : {T A : Type 0} (f : T → A) (r : Result T Refusal) {a : A} → told f r ≡ accepted a → IsAccepted f r a
unfolding told
accepted_told f (Ok x) e = record { value = x; is = refl; its_meaning = cc }
accepted_told f (Err r) e = never (cc)
