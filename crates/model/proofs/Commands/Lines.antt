-- An accepted command: no line of its refusals holds.
-- Assumes nothing.
use mathlib.Core.Path.{◌≡◌, refl}
use mathlib.Core.Bool.{Bool, true, false, not, cond, ◌||◌}
use mathlib.Core.List.{List, [], ◌∷◌}
use Prim.Native.Nat.{ℕ, ◌^◌}
use native.Mathlib.Omega.{arith}
use lib.Dec.{eqb, leb, ltb}
use borrow.Author.Tests.{not-false, eqb-true, eqb-false, le-leb}
use Rattle.model.specs.Lists.{all_of}
use Rattle.model.specs.Policy.{Policy, is_right_set, kind_of, is_there}
use Rattle.model.specs.Refusal.{Line, None, end, past, Lent, proper}
use Rattle.model.proofs.Refusals.{numbered, refusal_none}
use Rattle.model.specs.Command.{Command, create_class, create_element, assign, deassign, delete_element, create_association, delete_association, create_prohibition, delete_prohibition, start_process, end_process, command_lines, command_refusal}
use Rattle.model.proofs.Truth.{and_join, or_fails}

-- whether the line with this number holds
abbrev pub line_of : ℕ → List Line → Bool
line_of n [] = false
line_of n (l ∷ ls) = cond (eqb l.number n) l.holds (line_of n ls)

-- where no line holds, none does whatever its number
pub none_line : {ls : List Line} → None ls → (n : ℕ) → line_of n ls ≡ false
none_line end n = refl
none_line (past {l = l} {ls = ls} h f) n = rw h (either (eqb l.number n) (none_line f n))
  where
    either : (t : Bool) → line_of n ls ≡ false → cond t false (line_of n ls) ≡ false
    either true e = refl
    either false e = e

-- the lines of every command are numbered
pub commands_numbered : (m : Lent) (p : Policy) (c : Command) → numbered (command_lines m p c) ≡ true
unfolding command_lines all_of
commands_numbered m p (create_class x) = refl
commands_numbered m p (create_element x k y) = refl
commands_numbered m p (assign x y) = refl
commands_numbered m p (deassign x y) = refl
commands_numbered m p (delete_element x) = refl
commands_numbered m p (create_association a) = refl
commands_numbered m p (delete_association a) = refl
commands_numbered m p (create_prohibition b) = refl
commands_numbered m p (delete_prohibition b) = refl
commands_numbered m p (start_process i u) = refl
commands_numbered m p (end_process i) = refl

-- of an accepted command no line holds, whatever its number
pub line_fails : (p : Policy) (c : Command) → command_refusal p c ≡ 0 → (n : ℕ) → line_of n (command_lines proper p c) ≡ false
unfolding command_refusal
line_fails p c e n = none_line (refusal_none (command_lines proper p c) (commands_numbered proper p c) e) n

-- What such lines tell. An element that is not there has kind 0:
pub absent : (p : Policy) (x : ℕ) → is_there p x ≡ false → kind_of p x ≡ 0
unfolding is_there
absent p x e = eqb-true (kind_of p x) 0 (not-false (eqb (kind_of p x) 0) e)

-- two tests pass where neither of them fails
pub both_pass : (a b : Bool) → (not a || not b) ≡ false → (a ≡ true) × (b ≡ true)
both_pass a b e = let c = or_fails (not a) (not b) e in (not-false a c.0, not-false b c.1)

-- a set of rights that fits and is not empty is right
pub right_set : (r : ℕ) → ltb r (2 ^ 32) ≡ true → eqb r 0 ≡ false → is_right_set r ≡ true
unfolding is_right_set
right_set r f e =
    let d = eqb-false r 0 e in
    and_join (leb 1 r) (ltb r (2 ^ 32)) (le-leb 1 r (omega arith)) f
