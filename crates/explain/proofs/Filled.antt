-- What an explanation that is not refused before 10 answers and leaves: 10 and nothing where the lent rows are too few, else its rows over them.
-- Assumes nothing.
use mathlib.Core.Path.{◌≡◌, refl, sym, ap, ◌∙◌}
use mathlib.Core.List.{List, [], ◌∷◌}
use Prim.Native.Nat.{ℕ, ◌≤◌, ◌<◌}
use native.Mathlib.Omega.{arith}
use borrow.Author.Tests.{lt-ltb, le-ltb}
use lib.ListN.{length, set, length-map}
use Rattle.model.specs.Policy.{Policy}
use Rattle.model.specs.Contain.{contained}
use Rattle.model.specs.Refusal.{accepted, answer}
use Rattle.model.specs.Request.{Request as Asks, verdict}
use Rattle.model.specs.Explain.{rows}
use Rattle.model.specs.Calls.{kept, over}
use Rattle.std.specs.Prelude.{Result, Err}
use Rattle.answer.specs.declared.Refusal.{Refusal}
use Rattle.answer.specs.declared.Refusal.TheVariants.{NoRoom}
use Rattle.answer.specs.Answers as answers
use Rattle.explain.specs.declared.Explanation.{Explanation}
use Rattle.explain.specs.Answers.{told, numbers_of, left, numbers, explained}

-- there are as many rows of numbers as rows
pub numbers_length : (p : Policy) (q : Asks) → length (numbers p q) ≡ length (rows (contained p) p q)
unfolding numbers
numbers_length p q = length-map (rows (contained p) p q) numbers_of

-- The rows of the request as numbers, with the rows that are lent.
module _ (p : Policy) (q : Asks) (room : List (List ℕ)) {l : List (List ℕ)} (e : numbers p q ≡ l) where
  -- there are as many as the explanation counts
  rows_length : length (rows (contained p) p q) ≡ length l
  rows_length = sym (numbers_length p q) ∙ ap length e

  -- they are more than the lent rows: refused with 10, and nothing is written
  pub too_few : length room < length l → left (Err NoRoom) room ≡ explained p q room
  unfolding answers.told explained answer kept
  too_few h = rw (rows_length, lt-ltb (length room) (length l) h)

  -- they have room: the answer is the verdict with their number, and they stand over the lent rows
  pub filled : length l ≤ length room → (r : Result Explanation Refusal) → told r ≡ accepted (record { verdict = verdict (contained p) p q; count = length l })
      → {out : List (List ℕ)} → out ≡ over l room → left r out ≡ explained p q room
  unfolding explained answer kept
  filled h r t o = rw (rows_length, le-ltb (length room) (length l) h, t, o, e)

-- one row that is written stands over the lent rows
pub set_one : (room : List (List ℕ)) (a : List ℕ) → 1 ≤ length room → set room 0 a ≡ over (a ∷ []) room
set_one [] a h = absurd (omega arith)
set_one (x ∷ room) a h = refl

-- and so do two
pub set_two : (room : List (List ℕ)) (a b : List ℕ) → 2 ≤ length room → set (set room 0 a) 1 b ≡ over (a ∷ b ∷ []) room
set_two [] a b h = absurd (omega arith)
set_two (x ∷ []) a b h = absurd (omega arith)
set_two (x ∷ y ∷ room) a b h = refl
