-- Each call whole: what it answers, and what it leaves in each thing lent to it. "A refused call .. writes nothing."
-- Assumes nothing.
use Rattle.std.specs.Prelude.{Bool, true, false, cond, List, ◌++◌, ℕ, length, drop}
use Rattle.model.specs.Lists.{same}
use Rattle.model.specs.Policy.{Policy, empty_policy}
use Rattle.model.specs.Contain.{contained}
use Rattle.model.specs.Refusal.{Lent, Answer, refused, accepted, answer}
use Rattle.model.specs.Request.{Request, Verdict, decision, indexed_decision}
use Rattle.model.specs.Explain.{Row, Explained, rows, explanation}
use Rattle.model.specs.Command.{Command, create_class, create_element, assign, deassign, delete_element, create_association, delete_association, create_prohibition, delete_prohibition, start_process, end_process, command_lines, new_lines, after}
use Rattle.model.specs.Image.{policy_in, image_of, load_lines, save_lines}
use Rattle.model.specs.Index.{index_of, bit_at, index_lines, contain_lines}

-- What the working memory is to a call: whether it holds a table, and the policy that the table is. Which memory holds a table, and which
-- policy it is, the crate `table` says.
pub record Memory : Type 0 where
  pub holds_table : Bool
  pub policy : Policy

-- the memory and the index, as the lines ask for them
abbrev pub lent : Memory → (index : List ℕ) → Lent
lent m index = record { holds_table = m.holds_table; index = length index }

-- what is in place after a call: the new where it was accepted, the old where it was refused
unfoldable pub kept : {A B : Type 0} → Answer A → (new old : B) → B
kept (refused n) new old = old
kept (accepted a) new old = new

-- lent elements after a call that writes some of them from the front: "no byte beyond", "rows beyond it keep their contents"
abbrev pub over : {A : Type 0} → (new old : List A) → List A
over new old = new ++ drop (length new) old

-- Plain containment, by chains of assignments.
unfoldable pub contains : Memory → (x y : ℕ) → Answer Bool
contains m x y = answer (contain_lines m.holds_table m.policy x y) (contained m.policy x y)

-- The plain decision: containment by chains of assignments.
unfoldable pub decide : Memory → Request → Answer Verdict
decide m q = decision (contained m.policy) m.holds_table m.policy q

-- "The indexed decision takes containment from these bits alone; over other bytes it answers as the rule does with those bits read as containment."
unfoldable pub decide_indexed : Memory → (index : List ℕ) → Request → Answer Verdict
decide_indexed m index q = indexed_decision (bit_at index) (lent m index) m.policy q

-- The explanation: its answer, and the lent rows afterwards.
pub record Explaining : Type 0 where
  pub answers : Answer Explained
  pub leaves : List Row

-- the explanation, whole
unfoldable pub explain : Memory → Request → (room : List Row) → Explaining
explain m q room =
    let told = explanation (contained m.policy) m.holds_table (length room) m.policy q in
    record { answers = told; leaves = kept told (over (rows (contained m.policy) m.policy q) room) room }

-- A call that makes a table: its answer, and the policy afterwards.
pub record Making : Type 0 where
  pub answers : Answer Policy
  pub table : Policy

-- New: "the working memory has another length than the published one" is its only refusal.
unfoldable pub new : (length_fits : Bool) (old : Policy) → Making
new length_fits old =
    let told = answer (new_lines length_fits) empty_policy in
    record { answers = told; table = kept told empty_policy old }

-- Load.
unfoldable pub load : (length_fits : Bool) (image : List ℕ) (old : Policy) → Making
load length_fits image old =
    let told = answer (load_lines length_fits image) (policy_in image) in
    record { answers = told; table = kept told (policy_in image) old }

-- Save: the answer carries the length; the lent bytes afterwards.
pub record Saving : Type 0 where
  pub answers : Answer ℕ
  pub leaves : List ℕ

-- save, whole
unfoldable pub save : Memory → (room : List ℕ) → Saving
save m room =
    let image = image_of m.policy in
    let told = answer (save_lines m.holds_table (length room) m.policy) (length image) in
    record { answers = told; leaves = kept told (over image room) room }

-- Building the index: its answer, and the index afterwards.
pub record Building : Type 0 where
  pub answers : Answer (List ℕ)
  pub index : List ℕ

-- building the index, whole
unfoldable pub build : Memory → (index : List ℕ) → Building
build m index =
    let told = answer (index_lines (lent m index)) (index_of m.policy) in
    record { answers = told; index = kept told (index_of m.policy) index }

-- "A call tells whether an index is the table's."
unfoldable pub is_index : Memory → (index : List ℕ) → Answer Bool
is_index m index = answer (index_lines (lent m index)) (same index (index_of m.policy))

-- The commands that can change what is within what, or what is there.
unfoldable pub changes_containment : Command → Bool
changes_containment (create_class x) = true
changes_containment (create_element x k y) = true
changes_containment (assign x y) = true
changes_containment (deassign x y) = true
changes_containment (delete_element x) = true
changes_containment (create_association a) = false
changes_containment (delete_association a) = false
changes_containment (create_prohibition b) = false
changes_containment (delete_prohibition b) = false
changes_containment (start_process i u) = false
changes_containment (end_process i) = false

-- "Every command takes the table and the index and leaves both up to date.": a command that can change containment leaves the index of the
-- policy after it, whatever bytes it was lent; the others leave the index as it was.
pub record Commanding : Type 0 where
  pub answers : Answer Policy
  pub table : Policy
  pub index : List ℕ

-- a command, whole
unfoldable pub command : Memory → (index : List ℕ) → Command → Commanding
command m index c =
    let next = after m.policy c in
    let told = answer (command_lines (lent m index) m.policy c) next in
    record { answers = told; table = kept told next m.policy; index = kept told (cond (changes_containment c) (index_of next) index) index }
