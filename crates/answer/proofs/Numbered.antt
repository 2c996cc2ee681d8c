-- The rules number their refusals 1 to 14, and each of these is the number of a refusal.
-- Assumes nothing.
use mathlib.Core.Path.{◌≡◌, refl}
use mathlib.Core.Bool.{Bool, true, ◌&&◌}
use mathlib.Core.List.{List, [], ◌∷◌}
use Prim.Native.Nat.{ℕ, zero, suc, ◌≤◌}
use native.Mathlib.Omega.{arith}
use borrow.Author.Tests.{leb-true}
use lib.Dec.{leb}
use Rattle.model.specs.Lists.{all_of}
use Rattle.model.specs.Policy.{Policy}
use Rattle.model.specs.Command.{Command, create_class, create_element, assign, deassign, delete_element, create_association, delete_association, create_prohibition, delete_prohibition, start_process, end_process, command_lines}
use Rattle.model.specs.Refusal.{Lent, Line, First, now, next}
use Rattle.model.proofs.Truth.{and_left, and_right}
use Rattle.answer.specs.declared.Refusal.{Refusal}
use Rattle.answer.specs.declared.Refusal.TheVariants.{NoTable, OutOfRange, AlreadyThere, NotThere, WrongKind, IllFormed, ClosesCycle, OnlyAssignment, InUse, NoRoom, OtherForm, Misfit, BreaksRule, NamesWrong}
use Rattle.answer.specs.Answers.{number_of}

-- a number of the rules
pub record Number (n : ℕ) : Type 0 where
  pub least : 1 ≤ n
  pub most : n ≤ 14

-- the lines' numbers are 1 to 14
abbrev pub listed_lines : List Line → Bool
listed_lines ls = all_of (λ l. leb 1 l.number && leb l.number 14) ls

-- the first line that holds has a number of the rules
pub first_number : {n : ℕ} {ls : List Line} → listed_lines ls ≡ true → First n ls → Number n
unfolding all_of
first_number {n} {ls = l ∷ ls} t (now e h) =
    let b = and_left (leb 1 l.number && leb l.number 14) (listed_lines ls) t in
    let it : Number l.number = record {
      least = leb-true 1 l.number (and_left (leb 1 l.number) (leb l.number 14) b);
      most = leb-true l.number 14 (and_right (leb 1 l.number) (leb l.number 14) b);
    } in
    rw e at it
first_number {ls = l ∷ ls} t (next h f) = first_number (and_right (leb 1 l.number && leb l.number 14) (listed_lines ls) t) f
first_number {n = n} {ls = []} t never = elim never [ ]

-- the lines of the eleven commands have numbers of the rules
pub command_lines_listed : (m : Lent) (p : Policy) (c : Command) → listed_lines (command_lines m p c) ≡ true
unfolding command_lines all_of
command_lines_listed m p (create_class x) = refl
command_lines_listed m p (create_element x k y) = refl
command_lines_listed m p (assign x y) = refl
command_lines_listed m p (deassign x y) = refl
command_lines_listed m p (delete_element x) = refl
command_lines_listed m p (create_association a) = refl
command_lines_listed m p (delete_association a) = refl
command_lines_listed m p (create_prohibition b) = refl
command_lines_listed m p (delete_prohibition b) = refl
command_lines_listed m p (start_process i u) = refl
command_lines_listed m p (end_process i) = refl

-- a refusal with this number
pub record Numbered (n : ℕ) : Type 0 where
  pub why : Refusal
  pub its_number : number_of why ≡ n

-- there is one for each number of the rules
pub refusal_with : {n : ℕ} → Number n → Numbered n
refusal_with {n = zero} k = absurd (omega (arith, k.least))
refusal_with {n = suc zero} k = record { why = NoTable; its_number = refl }
refusal_with {n = suc (suc zero)} k = record { why = OutOfRange; its_number = refl }
refusal_with {n = suc (suc (suc zero))} k = record { why = AlreadyThere; its_number = refl }
refusal_with {n = suc (suc (suc (suc zero)))} k = record { why = NotThere; its_number = refl }
refusal_with {n = suc (suc (suc (suc (suc zero))))} k = record { why = WrongKind; its_number = refl }
refusal_with {n = suc (suc (suc (suc (suc (suc zero)))))} k = record { why = IllFormed; its_number = refl }
refusal_with {n = suc (suc (suc (suc (suc (suc (suc zero))))))} k = record { why = ClosesCycle; its_number = refl }
refusal_with {n = suc (suc (suc (suc (suc (suc (suc (suc zero)))))))} k = record { why = OnlyAssignment; its_number = refl }
refusal_with {n = suc (suc (suc (suc (suc (suc (suc (suc (suc zero))))))))} k = record { why = InUse; its_number = refl }
refusal_with {n = suc (suc (suc (suc (suc (suc (suc (suc (suc (suc zero)))))))))} k = record { why = NoRoom; its_number = refl }
refusal_with {n = suc (suc (suc (suc (suc (suc (suc (suc (suc (suc (suc zero))))))))))} k = record { why = OtherForm; its_number = refl }
refusal_with {n = suc (suc (suc (suc (suc (suc (suc (suc (suc (suc (suc (suc zero)))))))))))} k = record { why = Misfit; its_number = refl }
refusal_with {n = suc (suc (suc (suc (suc (suc (suc (suc (suc (suc (suc (suc (suc zero))))))))))))} k = record { why = BreaksRule; its_number = refl }
refusal_with {n = suc (suc (suc (suc (suc (suc (suc (suc (suc (suc (suc (suc (suc (suc zero)))))))))))))} k = record { why = NamesWrong; its_number = refl }
refusal_with {n = suc (suc (suc (suc (suc (suc (suc (suc (suc (suc (suc (suc (suc (suc (suc n))))))))))))))} k = absurd (omega (arith, k.most))
