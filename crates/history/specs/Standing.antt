-- What is true of the last words and the last bytes of a run: demand 3.
-- Assumes nothing.
use Rattle.std.specs.Prelude.{◌≡◌, Result, true, List, ◌↔◌, ◌⊎◌, ℕ, ◌<◌, eqb, length}
use Rattle.model.specs.Lists.{In}
use Rattle.model.specs.Policy.{Element, Policy, is_there}
use Rattle.model.specs.Contain.{Chain}
use Rattle.model.specs.Sound.{Sound}
use Rattle.model.specs.Refusal.{refused}
use Rattle.model.specs.Request.{Request as Asks}
use Rattle.model.specs.Explain.{Row}
use Rattle.model.specs.Command.{Command}
use Rattle.model.specs.History.{Item, holds, stands, Reaches}
use Rattle.model.specs.Index.{index_of, bit_at}
use Rattle.model.specs.Calls.{contains, decide, decide_indexed, explain, new, load, save, build, is_index, command}
use Rattle.table.specs.Layout.{word_count}
use Rattle.table.specs.View.{policy_of, memory}
use Rattle.request.specs.declared.Request.{Request}
use Rattle.request.specs.Asks.{request_of}
use Rattle.answer.specs.declared.Refusal.{Refusal}
use Rattle.decide.specs.Answers.{told}
use Rattle.decide.specs.declared.Decision.{Decision}
use Rattle.history.specs.Steps.{Step, log_of}

-- "contained": the two elements are there, and they are the same or a chain joins them
pub record Contained (p : Policy) (x y : ℕ) : Type 0 where
  pub inner : is_there p x ≡ true
  pub outer : is_there p y ≡ true
  pub joined : (x ≡ y) ⊎ Chain p.assignments x y

-- no call on these words is refused with 1
pub record NeverOne (words : List ℕ) : Type 0 where
  pub new : (old : Policy) → (new (eqb (length words) word_count) old).answers ≡ refused 1 → ⊥
  pub load : (image : List ℕ) (old : Policy) → (load (eqb (length words) word_count) image old).answers ≡ refused 1 → ⊥
  pub contains : (x y : ℕ) → contains (memory words) x y ≡ refused 1 → ⊥
  pub decide : (q : Asks) → decide (memory words) q ≡ refused 1 → ⊥
  pub decide_indexed_lem : (bytes : List ℕ) (q : Asks) → decide_indexed (memory words) bytes q ≡ refused 1 → ⊥
  pub explain : (q : Asks) (room : List Row) → (explain (memory words) q room).answers ≡ refused 1 → ⊥
  pub save : (room : List ℕ) → (save (memory words) room).answers ≡ refused 1 → ⊥
  pub build : (bytes : List ℕ) → (build (memory words) bytes).answers ≡ refused 1 → ⊥
  pub is_index_lem : (bytes : List ℕ) → is_index (memory words) bytes ≡ refused 1 → ⊥
  pub command : (bytes : List ℕ) (c : Command) → (command (memory words) bytes c).answers ≡ refused 1 → ⊥

-- After these steps, from a table that started with this policy: the last words, the last bytes.
pub record Standing (start : Policy) (steps : List Step) (words bytes : List ℕ) : Type 0 where
  -- "the table holds exactly what was put and not since removed", item by item: what was there at the start or an accepted command put, and no
  -- accepted command has since removed
  pub exactly : (i : Item) → holds (policy_of words) i ≡ stands (holds start) (log_of steps) i
  -- and each once, in the order of the image, with every field, kind and limit as 01 demands
  pub sound : Sound (policy_of words)
  -- "no chain of assignments returns to its start"
  pub acyclic : (x : ℕ) → Chain (policy_of words).assignments x x → ⊥
  -- "every element is or reaches a policy class"
  pub classed : (e : Element) → In e (policy_of words).elements → Reaches (policy_of words) e.id
  -- every byte is the index's
  pub indexed : bytes ≡ index_of (policy_of words)
  -- "the index says "contained" for exactly each element with itself and the pairs that a chain joins"
  pub contained : (x y : ℕ) → y < 512 → (bit_at bytes x y ≡ true) ↔ Contained (policy_of words) x y
  -- memory left so is never refused with 1
  pub never_one : NeverOne words
  -- "a request answered from the index gets the same refusal, grant or deny as the plain search, for every process, operation and argument": any
  -- two results that the contracts of the two decisions allow
  pub alike : (q : Request) (r s : Result Decision Refusal) → told r ≡ decide (memory words) (request_of q) → told s ≡ decide_indexed (memory words) bytes (request_of q) → r ≡ s
