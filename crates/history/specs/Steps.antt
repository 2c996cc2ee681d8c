-- Any sequence of commands on the working memory and its index, refused ones among them. Every step meets the contract of its command, and starts
-- from the words and the bytes that the one before it left.
-- Assumes nothing.
use Rattle.std.specs.Prelude.{◌≡◌, Result, Ok, Err, Bool, true, false, cond, List, [], ◌∷◌, map, ℕ}
use Rattle.model.specs.Policy.{Policy, empty_policy}
use Rattle.model.specs.Command.{Command, fits}
use Rattle.model.specs.Image.{policy_in}
use Rattle.model.specs.Calls.{build}
use Rattle.table.specs.View.{memory}
use Rattle.table.specs.Answers.{left, new_table}
use Rattle.answer.specs.declared.Refusal.{Refusal}
use Rattle.index.specs.Answers as index
use Rattle.image.specs.Answers.{load_table}
use Rattle.command.specs.Commanded.{Commanded}

-- The first state. A call of `table::new` that was accepted left these words: its own contract.
pub record New (words : List ℕ) : Type 0 where
  pub before : List ℕ
  pub call : left (Ok tt) words ≡ new_table before

-- A call of `image::load` that was accepted, on this image, left these words: its own contract.
pub record Loaded (image words : List ℕ) : Type 0 where
  pub before : List ℕ
  pub call : left (Ok tt) words ≡ load_table image before

-- a table that new or load made, and the policy that it starts with
pub data Begun : Policy → (words : List ℕ) → Type 0 where
  new : {words : List ℕ} → New words → Begun empty_policy words
  loaded : {image words : List ℕ} → Loaded image words → Begun (policy_in image) words

-- "its index built with it": a call of `index::build` that was accepted left these bytes: its own contract
pub record Built (words bytes : List ℕ) : Type 0 where
  pub before : List ℕ
  pub call : index.left (Ok tt) bytes ≡ build (memory words) before

-- A step: the command, the words and the index's bytes before it, what it was answered, the words and the bytes after it.
pub record Step : Type 0 where
  pub command : Command
  pub words : List ℕ
  pub bytes : List ℕ
  pub outcome : Result (Unit {0}) Refusal
  pub words' : List ℕ
  pub bytes' : List ℕ

-- the step meets the contract of its command: what each of the eleven functions ensures, for what a caller can pass
pub record Meets (s : Step) : Type 0 where
  pub passable : fits s.command ≡ true
  pub call : Commanded s.words s.bytes s.command s.outcome s.words' s.bytes'

-- a run: its first words and bytes, its steps, oldest first, and its last words and bytes
pub data Run : (words bytes : List ℕ) → List Step → (words' bytes' : List ℕ) → Type 0 where
  none : {words bytes : List ℕ} → Run words bytes [] words bytes
  then : (s : Step) → Meets s → {steps : List Step} {words' bytes' : List ℕ} → Run s.words' s.bytes' steps words' bytes'
      → Run s.words s.bytes (s ∷ steps) words' bytes'

-- the command was done
unfoldable pub is_done : Result (Unit {0}) Refusal → Bool
is_done (Ok x) = true
is_done (Err r) = false

-- The log: the commands that were done, oldest first.
unfoldable pub log_of : List Step → List Command
log_of [] = []
log_of (s ∷ steps) = cond (is_done s.outcome) (s.command ∷ log_of steps) (log_of steps)

-- the commands of a run, done or refused
abbrev pub commands_of : List Step → List Command
commands_of steps = map (λ (s : Step). s.command) steps

-- a run of these commands
pub record Ran (words bytes : List ℕ) (commands : List Command) : Type 0 where
  pub steps : List Step
  pub words' : List ℕ
  pub bytes' : List ℕ
  pub run : Run words bytes steps words' bytes'
  pub are : commands_of steps ≡ commands
