-- What the refusal number of a command tells: 0, that no line holds, the memory holds a table and the index has its length; another number, that its
-- line is the first that holds.
-- Assumes nothing.
use mathlib.Core.Path.{◌≡◌, refl, sym, ◌∙◌}
use mathlib.Core.Bool.{true, false, not}
use mathlib.Core.List.{List}
use Prim.Native.Nat.{ℕ, ◌≤◌, ◌<◌}
use native.Mathlib.Omega.{arith}
use native.Mathlib.Decide.{ℕ_discrete}
use borrow.Author.Tests.{ne_eqb, not-false}
use lib.Dec.{eqb}
use Rattle.model.specs.Policy.{Policy}
use Rattle.model.specs.Refusal.{Lent, First, None}
use Rattle.model.specs.Command.{Command, create_class, create_element, assign, deassign, delete_element, create_association, delete_association, create_prohibition, delete_prohibition, start_process, end_process, command_lines}
use Rattle.model.proofs.Truth.{clash}
use Rattle.model.proofs.Refusals.{refusal_none, refusal_first}
use Rattle.model.proofs.Commands.Lines.{line_of, none_line, commands_numbered}
use Rattle.table.specs.View.{holds_table, policy_of}
use Rattle.table.specs.Facts.{Table}
use Rattle.table.proofs.Test.{table_of_lem}
use Rattle.refusals.specs.Numbers.{refusal_of}

module _ (m : Lent) (p : Policy) where
  -- line 1 of every command: there is no table
  table_line : (c : Command) → line_of 1 (command_lines m p c) ≡ not m.holds_table
  unfolding command_lines
  table_line (create_class x) = refl
  table_line (create_element x k y) = refl
  table_line (assign x y) = refl
  table_line (deassign x y) = refl
  table_line (delete_element x) = refl
  table_line (create_association a) = refl
  table_line (delete_association a) = refl
  table_line (create_prohibition b) = refl
  table_line (delete_prohibition b) = refl
  table_line (start_process i u) = refl
  table_line (end_process i) = refl

  -- line 2 of every command holds where the index has another length
  index_line : eqb m.index 32768 ≡ false → (c : Command) → line_of 2 (command_lines m p c) ≡ true
  unfolding command_lines
  index_line e (create_class x) = rw e
  index_line e (create_element x k y) = rw e
  index_line e (assign x y) = rw e
  index_line e (deassign x y) = rw e
  index_line e (delete_element x) = rw e
  index_line e (create_association a) = rw e
  index_line e (delete_association a) = rw e
  index_line e (create_prohibition b) = rw e
  index_line e (delete_prohibition b) = rw e
  index_line e (start_process i u) = rw e
  index_line e (end_process i) = rw e

-- what a command finds lent
abbrev lent : (mem : List ℕ) (n : ℕ) → Lent
lent mem n = record { holds_table = holds_table mem; index = n }

-- The refusal number of a command, as it was told.
module _ (mem : List ℕ) (n : ℕ) (c : Command) {r : ℕ} (e : r ≡ refusal_of mem n c) where
  -- it is 0: no line holds
  pub accepts_none : r ≤ 0 → None (command_lines (record { holds_table = holds_table mem; index = n }) (policy_of mem) c)
  unfolding refusal_of
  accepts_none h =
      let z : r ≡ 0 = omega arith in
      refusal_none (command_lines (lent mem n) (policy_of mem) c) (commands_numbered (lent mem n) (policy_of mem) c) (sym e ∙ z)

  -- the memory holds a table
  pub accepts_table : r ≤ 0 → Table mem
  accepts_table h = table_of_lem mem (not-false (holds_table mem) (sym (table_line (lent mem n) (policy_of mem) c) ∙ none_line (accepts_none h) 1))

  -- the index has its length
  pub accepts_index : r ≤ 0 → n ≡ 32768
  accepts_index h = elim (ℕ_discrete n 32768) [
    | yes q ↦ q
    | no d ↦ absurd (clash (index_line (lent mem n) (policy_of mem) (ne_eqb n 32768 d) c) (none_line (accepts_none h) 2))
  ]

  -- it is not 0: its line is the first that holds
  pub refuses_first : 0 < r → First r (command_lines (record { holds_table = holds_table mem; index = n }) (policy_of mem) c)
  unfolding refusal_of
  refuses_first h = refusal_first (command_lines (lent mem n) (policy_of mem) c) (λ z. omega (arith, z)) (sym e)
