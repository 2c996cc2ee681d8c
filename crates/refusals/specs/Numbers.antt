-- The refusal number of a command: of its lines, judged on the table and the length of the index, the number of the first that holds.
-- Assumes nothing.
use Rattle.std.specs.Prelude.{List, ℕ, drop}
use Rattle.model.specs.Policy.{Policy}
use Rattle.model.specs.Refusal.{refusal, proper}
use Rattle.model.specs.Command.{Command, command_lines}
use Rattle.table.specs.View.{holds_table, policy_of}

-- 0 where the command is accepted
unfoldable pub refusal_of : (mem : List ℕ) (index_length : ℕ) → Command → ℕ
refusal_of mem n c = refusal (command_lines (record { holds_table = holds_table mem; index = n }) (policy_of mem) c)

-- the same of the lines behind the first two, which ask for a table and for what is in range
unfoldable pub later_refusal : Policy → Command → ℕ
later_refusal p c = refusal (drop 2 (command_lines proper p c))
