-- 01, "Refusal numbers": "The lowest that applies is given, never another: each is given exactly when its line holds and none before it does."
-- Assumes nothing.
use Rattle.std.specs.Prelude.{◌≡◌, Bool, true, false, not, cond, List, [], ◌∷◌, ℕ, eqb}

-- one line: its number, and whether it holds of the call
pub record Line : Type 0 where
  pub number : ℕ
  pub holds : Bool

-- the line with number n, which holds when b does
infix 25 ◌when◌
abbrev pub ◌when◌ : ℕ → Bool → Line
n when b = record { number = n; holds = b }

-- the number of the first line that holds, 0 where none does
unfoldable pub refusal : List Line → ℕ
refusal [] = 0
refusal (l ∷ ls) = cond l.holds l.number (refusal ls)

-- number n's line holds, and none before it does
pub data First (n : ℕ) : List Line → Type 0 where
  now : {l : Line} {ls : List Line} → l.number ≡ n → l.holds ≡ true → First n (l ∷ ls)
  next : {l : Line} {ls : List Line} → l.holds ≡ false → First n ls → First n (l ∷ ls)

-- no line holds
pub data None : List Line → Type 0 where
  end : None []
  past : {l : Line} {ls : List Line} → l.holds ≡ false → None ls → None (l ∷ ls)

-- What a call answers: a refusal number, or what it was asked for.
pub data Answer (A : Type 0) : Type 0 where
  refused : ℕ → Answer A
  accepted : A → Answer A

-- a call's answer, by its lines
unfoldable pub answer : {A : Type 0} → List Line → A → Answer A
answer [] a = accepted a
answer (l ∷ ls) a = cond l.holds (refused l.number) (answer ls a)

-- What a call finds lent: whether the working memory holds a table, and how many bytes the index has.
pub record Lent : Type 0 where
  pub holds_table : Bool
  pub index : ℕ

-- "the working memory has another length than the published one or .. holds no table"
abbrev pub no_table : Lent → Bool
no_table m = not m.holds_table

-- "index not 32,768 bytes"
abbrev pub bad_index : Lent → Bool
bad_index m = not (eqb m.index 32768)

-- a table and an index of the right length
abbrev pub proper : Lent
proper = record { holds_table = true; index = 32768 }
