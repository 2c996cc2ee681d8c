-- What the code answers, in the rules' numbers: what a call was asked for, or the number of its refusal.
-- Assumes nothing.
use Rattle.std.specs.Prelude.{◌≡◌, Result, Ok, Err, ℕ, List, codes}
use Rattle.model.specs.Refusal.{Answer, refused, accepted}
use Rattle.answer.specs.declared.Refusal.{Refusal}
use Rattle.answer.specs.declared.Refusal.TheVariants.{NoTable, OutOfRange, AlreadyThere, NotThere, WrongKind, IllFormed, ClosesCycle, OnlyAssignment, InUse, NoRoom, OtherForm, Misfit, BreaksRule, NamesWrong}

-- the number of a refusal
abbrev pub number_of : Refusal → ℕ
number_of NoTable = 1
number_of OutOfRange = 2
number_of AlreadyThere = 3
number_of NotThere = 4
number_of WrongKind = 5
number_of IllFormed = 6
number_of ClosesCycle = 7
number_of OnlyAssignment = 8
number_of InUse = 9
number_of NoRoom = 10
number_of OtherForm = 11
number_of Misfit = 12
number_of BreaksRule = 13
number_of NamesWrong = 14

-- what a person is told of it
abbrev pub text_of : Refusal → List ℕ
text_of NoTable = codes "the memory holds no table"
text_of OutOfRange = codes "a number is out of range"
text_of AlreadyThere = codes "it is there already"
text_of NotThere = codes "what is named is not there"
text_of WrongKind = codes "the kinds do not allow it"
text_of IllFormed = codes "no rights, or lists that do not fit"
text_of ClosesCycle = codes "it would close a cycle"
text_of OnlyAssignment = codes "it is the only assignment"
text_of InUse = codes "it is in use"
text_of NoRoom = codes "there is no room"
text_of OtherForm = codes "the image is of another form"
text_of Misfit = codes "the image is longer or shorter than its fields"
text_of BreaksRule = codes "the image breaks a rule"
text_of NamesWrong = codes "the image names what it must not"

-- the answer that a result is, by what its value is taken for
unfoldable pub told : {T A : Type 0} → (T → A) → Result T Refusal → Answer A
told f (Ok x) = accepted (f x)
told f (Err r) = refused (number_of r)

-- the result is a refusal, with this number
pub record IsRefused {T : Type 0} (r : Result T Refusal) (number : ℕ) : Type 0 where
  pub why : Refusal
  pub is : r ≡ Err why
  pub its_number : number_of why ≡ number

-- the number of a refusal, 0 where there is none
abbrev pub refusal_in : {T : Type 0} → Result T Refusal → ℕ
refusal_in (Ok x) = 0
refusal_in (Err r) = number_of r
