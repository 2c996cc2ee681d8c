-- "each is given exactly when its line holds and none before it does": one law for the lines of every call.
-- Assumes nothing.
use mathlib.Core.Path.{◌≡◌, refl, sym, ap, ◌∙◌}
use mathlib.Core.Bool.{Bool, true, false, not}
use mathlib.Core.List.{List, [], ◌∷◌, ◌++◌}
use Prim.Native.Nat.{ℕ}
use native.Mathlib.Omega.{arith}
use lib.Dec.{eqb}
use Rattle.model.specs.Lists.{all_of}
use Rattle.model.specs.Refusal.{Line, First, now, next, None, end, past, refusal, refused, accepted, answer}
use Rattle.model.proofs.Truth.{clash, and_left, and_right}

-- the lines' numbers are not 0
abbrev pub numbered : List Line → Bool
numbered ls = all_of (λ l. not (eqb l.number 0)) ls

pub first_given : {n : ℕ} {ls : List Line} → First n ls → refusal ls ≡ n
unfolding refusal
first_given (now e h) = rw h e
first_given (next h f) = rw h (first_given f)

pub none_given : {ls : List Line} → None ls → refusal ls ≡ 0
unfolding refusal
none_given end = refl
none_given (past h f) = rw h (none_given f)

-- some line is the first that holds, or none holds
pub data Judged (ls : List Line) : Type 0 where
  by : {n : ℕ} → First n ls → Judged ls
  clear : None ls → Judged ls

pub judged : (ls : List Line) → Judged ls
judged [] = clear end
judged (l ∷ ls) = go l.holds refl (judged ls)
  where
    go : (t : Bool) → l.holds ≡ t → Judged ls → Judged (l ∷ ls)
    go true e j = by (now refl e)
    go false e (by f) = by (next e f)
    go false e (clear f) = clear (past e f)

-- what the lines of a call make of its answer
module _ {A : Type 0} (a : A) where
  pub first_refused : {n : ℕ} {ls : List Line} → First n ls → answer ls a ≡ refused n
  unfolding answer
  first_refused (now e h) = rw h (ap refused e)
  first_refused (next h f) = rw h (first_refused f)

  pub none_accepted : {ls : List Line} → None ls → answer ls a ≡ accepted a
  unfolding answer
  none_accepted end = refl
  none_accepted (past h f) = rw h (none_accepted f)

  -- a number is answered exactly if its line is the first that holds (the other half is `first_refused`)
  pub refused_first : (ls : List Line) {n : ℕ} → answer ls a ≡ refused n → First n ls
  refused_first ls {n} e = go (judged ls)
    where
      go : Judged ls → First n ls
      go (by {n = m} f) = let q : refused m ≡ answer ls a = sym (first_refused f) in let r : m ≡ n = cc in rw r at f
      go (clear f) = let q : accepted a ≡ answer ls a = sym (none_accepted f) in let z : ◌≡◌ {A = ℕ} 0 1 = cc in absurd (omega arith)

  -- a call is accepted exactly if no line holds, and then answers what it was asked for (the other half is `none_accepted`)
  pub accepted_none : (ls : List Line) {b : A} → answer ls a ≡ accepted b → None ls × (b ≡ a)
  accepted_none ls {b} e = go (judged ls)
    where
      go : Judged ls → None ls × (b ≡ a)
      go (by {n = m} f) = let q : refused m ≡ answer ls a = sym (first_refused f) in let z : ◌≡◌ {A = ℕ} 0 1 = cc in absurd (omega arith)
      go (clear f) = let q : accepted a ≡ answer ls a = sym (none_accepted f) in (f, cc)

-- two answers by the same lines are the same where they are the same if no line holds
pub answer_alike : {A : Type 0} (ls : List Line) {a b : A} → (None ls → a ≡ b) → answer ls a ≡ answer ls b
answer_alike ls {a} {b} h = go (judged ls)
  where
    go : Judged ls → answer ls a ≡ answer ls b
    go (by f) = first_refused a f ∙ sym (first_refused b f)
    go (clear f) = none_accepted a f ∙ ap accepted (h f) ∙ sym (none_accepted b f)

-- more lines behind those of a call: a refusal stays, and where there is none the further lines decide
module _ {A B : Type 0} (a : A) (b : B) (more : List Line) where
  pub refused_still : (ls : List Line) {n : ℕ} → answer ls a ≡ refused n → answer (ls ++ more) b ≡ refused n
  refused_still ls e = first_refused b (go (refused_first a ls e))
    where
      go : {n : ℕ} {ls : List Line} → First n ls → First n (ls ++ more)
      go (now q h) = now q h
      go (next h f) = next h (go f)

  pub accepted_then : (ls : List Line) {c : A} → answer ls a ≡ accepted c → answer (ls ++ more) b ≡ answer more b
  unfolding answer
  accepted_then ls e = go (accepted_none a ls e).0
    where
      go : {ls : List Line} → None ls → answer (ls ++ more) b ≡ answer more b
      go end = refl
      go (past h f) = rw h (go f)

-- the number of the lines, where none is numbered 0: 0 exactly if no line holds, else the number of the first that does
pub first_not_0 : {ls : List Line} → numbered ls ≡ true → First 0 ls → ⊥
unfolding all_of
first_not_0 {ls = l ∷ ls} e (now q h) = clash (rw q at (and_left (not (eqb l.number 0)) (numbered ls) e)) refl
first_not_0 {ls = l ∷ ls} e (next h f) = first_not_0 (and_right (not (eqb l.number 0)) (numbered ls) e) f
first_not_0 {ls = []} e never = elim never [ ]

pub refusal_none : (ls : List Line) → numbered ls ≡ true → refusal ls ≡ 0 → None ls
refusal_none ls t e = go (judged ls)
  where
    go : Judged ls → None ls
    go (by f) = absurd (first_not_0 t (let q = sym (first_given f) ∙ e in rw q at f))
    go (clear f) = f

pub refusal_first : (ls : List Line) {n : ℕ} → (n ≡ 0 → ⊥) → refusal ls ≡ n → First n ls
refusal_first ls {n} d e = go (judged ls)
  where
    go : Judged ls → First n ls
    go (by f) = let q = sym (first_given f) ∙ e in rw q at f
    go (clear f) = absurd (d (sym e ∙ none_given f))
