-- The code of each case of an answer: what a code function returns is the number that the definitions give.
-- Assumes nothing.
use mathlib.Core.Path.{◌≡◌, refl, sym}
use mathlib.Core.Bool.{Bool, true, false}
use Prim.Native.Nat.{ℕ, ◌+◌, ◌*◌}
use native.Mathlib.Omega.{arith}
use mir.Val.{bool_byte}
use Rattle.std.specs.Prelude.{Result, Ok, Err}
use Rattle.answer.specs.declared.Refusal.{Refusal}
use Rattle.answer.specs.Answers as answers
use Rattle.answer.specs.Answers.{number_of}
use Rattle.table.specs.Answers.{told as told_done}
use Rattle.decide.specs.Answers.{verdict_of, told as told_decided}
use Rattle.decide.specs.declared.Decision.{Decision}
use Rattle.decide.specs.declared.Decision.TheVariants as decision
use Rattle.explain.specs.Answers.{explained_by, told as told_explained}
use Rattle.explain.specs.declared.Explanation.{Explanation}
use Rattle.explain.specs.declared.Explanation.TheVariants as explanation
use Rattle.image.specs.Answers.{saved}
use Rattle.exports.specs.Codes.{code, decision_code, yes_code, save_code, rows_code, explain_code, verdict_code}

-- a call that changes something
module _ {r : Result (Unit {0}) Refusal} where
  -- one that was done has the code 0
  pub done_number : r ≡ Ok tt → 0 ≡ code (told_done r r)
  unfolding code answers.told
  done_number h = rw h refl

  -- one that was refused has its refusal number
  pub refused_number : {x : Refusal} {n : ℕ} → r ≡ Err x → n ≡ number_of x → n ≡ code (told_done r r)
  unfolding code answers.told
  refused_number h e = rw h e

-- a grant has its alternative
pub grant_code : {d : Decision} {k : ℕ} → d ≡ decision.Grant k → k ≡ verdict_code (verdict_of d)
unfolding verdict_code verdict_of
grant_code h = rw h refl

-- a deny has 0
pub deny_code : {d : Decision} → d ≡ decision.Deny → 0 ≡ verdict_code (verdict_of d)
unfolding verdict_code verdict_of
deny_code h = rw h refl

-- a decision
module _ {r : Result Decision Refusal} where
  -- one that is not refused has its verdict's code
  pub decided_code : {d : Decision} {c : ℕ} → r ≡ Ok d → c ≡ verdict_code (verdict_of d) → c ≡ decision_code (told_decided r)
  unfolding decision_code answers.told
  decided_code h e = rw h e

  -- a refused decision has 16 and the refusal number
  pub refused_decision_code : {x : Refusal} {c : ℕ} → r ≡ Err x → c ≡ 16 + number_of x → c ≡ decision_code (told_decided r)
  unfolding decision_code answers.told
  refused_decision_code h e = rw h e

-- a question
module _ {r : Result Bool Refusal} where
  -- yes has 1 and no has 0
  pub told_yes_code : (b : Bool) {n : ℕ} → r ≡ Ok b → n ≡ bool_byte b → n ≡ yes_code (answers.told (λ b. b) r)
  unfolding yes_code answers.told
  told_yes_code true h e = rw h e
  told_yes_code false h e = rw h e

  -- a refused question has 16 and the refusal number
  pub refused_yes_code : {x : Refusal} {c : ℕ} → r ≡ Err x → c ≡ 16 + number_of x → c ≡ yes_code (answers.told (λ b. b) r)
  unfolding yes_code answers.told
  refused_yes_code h e = rw h e

-- a save
module _ {r : Result ℕ Refusal} where
  -- an accepted save has the length
  pub length_code : {n : ℕ} → r ≡ Ok n → n ≡ save_code (saved r)
  unfolding save_code answers.told
  length_code h = rw h refl

  -- a refused save has the refusal number in the high half, and 0 in the low half
  pub refused_save_code : {x : Refusal} {n c : ℕ} → r ≡ Err x → n ≡ number_of x → c ≡ n * 4294967296 + 0 → c ≡ save_code (saved r)
  unfolding save_code answers.told
  refused_save_code h d e = rw (h, sym d) (omega arith)

-- a grant has its alternative in the high half and the number of rows in the low half
pub grant_rows_code : {d : Explanation} {k n c : ℕ} → d ≡ explanation.Grant k n → c ≡ k * 4294967296 + n → c ≡ rows_code (explained_by d)
unfolding verdict_code explained_by
grant_rows_code h e = rw h e

-- a deny has 0 in the high half and the number of rows in the low half
pub deny_rows_code : {d : Explanation} {n c : ℕ} → d ≡ explanation.Deny n → c ≡ 0 * 4294967296 + n → c ≡ rows_code (explained_by d)
unfolding verdict_code explained_by
deny_rows_code h e = rw h e

-- an explanation
module _ {r : Result Explanation Refusal} where
  -- one that is not refused has its code
  pub explained_code : {d : Explanation} {c : ℕ} → r ≡ Ok d → c ≡ rows_code (explained_by d) → c ≡ explain_code (told_explained r)
  unfolding explain_code answers.told
  explained_code h e = rw h e

  -- a refused explanation has 16 and the refusal number in the high half, and no rows
  pub refused_rows_code : {x : Refusal} {n c : ℕ} → r ≡ Err x → n ≡ 16 + number_of x → c ≡ n * 4294967296 + 0 → c ≡ explain_code (told_explained r)
  unfolding explain_code answers.told
  refused_rows_code h d e = rw (h, sym d) (omega arith)
