-- What is claimed of every result that the contracts of the C face allow. proofs/Theorems.antt proves it: the theorem `unique` is of type `Unique`,
-- `codes_tell` of type `CodesTell`.
-- Assumes nothing.
use Rattle.std.specs.Prelude.{◌≡◌, List, ℕ}
use Rattle.model.specs.Refusal.{Answer, refused, accepted}
use Rattle.model.specs.Request.{Request}
use Rattle.model.specs.Command.{Command}
use Rattle.model.specs.Calls as calls
use Rattle.table.specs.View.{memory}
use Rattle.table.specs.Answers.{new_table}
use Rattle.explain.specs.Answers.{explaining}
use Rattle.image.specs.Answers.{load_table}
use Rattle.exports.specs.Allows as allows

-- unique. Any two results that a contract allows are equal: the code, and every word, byte and row that was lent to be written.
pub record Unique : Type 0 where
  pub new : (words : List ℕ) (r s : ℕ) (words' words'' : List ℕ) → allows.new words r words' → allows.new words s words'' → (r ≡ s) × (words' ≡ words'')
  pub load : (words image : List ℕ) (r s : ℕ) (words' words'' : List ℕ) → allows.load words image r words' → allows.load words image s words''
      → (r ≡ s) × (words' ≡ words'')
  pub save : (words bytes : List ℕ) (r s : ℕ) (bytes' bytes'' : List ℕ) → allows.save words bytes r bytes' → allows.save words bytes s bytes''
      → (r ≡ s) × (bytes' ≡ bytes'')
  pub build_index : (words bytes : List ℕ) (r s : ℕ) (bytes' bytes'' : List ℕ) → allows.build_index words bytes r bytes'
      → allows.build_index words bytes s bytes'' → (r ≡ s) × (bytes' ≡ bytes'')
  pub is_index : (words bytes : List ℕ) (r s : ℕ) → allows.is_index words bytes r → allows.is_index words bytes s → r ≡ s
  pub contains : (words : List ℕ) (x y : ℕ) (r s : ℕ) → allows.contains words x y r → allows.contains words x y s → r ≡ s
  pub decide : (words : List ℕ) (q : Request) (r s : ℕ) → allows.decide words q r → allows.decide words q s → r ≡ s
  pub decide_indexed : (words bytes : List ℕ) (q : Request) (r s : ℕ) → allows.decide_indexed words bytes q r → allows.decide_indexed words bytes q s
      → r ≡ s
  pub explain : (words : List ℕ) (q : Request) (rows : List (List ℕ)) (r s : ℕ) (rows' rows'' : List (List ℕ))
      → allows.explain words q rows r rows' → allows.explain words q rows s rows'' → (r ≡ s) × (rows' ≡ rows'')
  pub command : (words bytes : List ℕ) (c : Command) (r s : ℕ) (words' words'' bytes' bytes'' : List ℕ)
      → allows.command words bytes c r words' bytes' → allows.command words bytes c s words'' bytes'' → (r ≡ s) × (words' ≡ words'') × (bytes' ≡ bytes'')

-- both accepted, or both refused with the same number
pub data Alike {A B : Type 0} : Answer A → Answer B → Type 0 where
  both_accepted : {a : A} {b : B} → Alike (accepted a) (accepted b)
  both_refused : {n : ℕ} → Alike (refused n) (refused n)

-- codes_tell. The code alone tells the answer: where two calls, whatever each was given, may answer the same code r, 01's answers to them are the same;
-- of calls that change something, both are done or both are refused with the same number.
pub record CodesTell : Type 0 where
  pub new : (words words₂ : List ℕ) (r : ℕ) (words' words₂' : List ℕ) → allows.new words r words' → allows.new words₂ r words₂'
      → Alike (new_table words).answers (new_table words₂).answers
  pub load : (words image words₂ image₂ : List ℕ) (r : ℕ) (words' words₂' : List ℕ) → allows.load words image r words' → allows.load words₂ image₂ r words₂'
      → Alike (load_table image words).answers (load_table image₂ words₂).answers
  pub save : (words bytes words₂ bytes₂ : List ℕ) (r : ℕ) (bytes' bytes₂' : List ℕ) → allows.save words bytes r bytes' → allows.save words₂ bytes₂ r bytes₂'
      → (calls.save (memory words) bytes).answers ≡ (calls.save (memory words₂) bytes₂).answers
  pub build_index : (words bytes words₂ bytes₂ : List ℕ) (r : ℕ) (bytes' bytes₂' : List ℕ) → allows.build_index words bytes r bytes'
      → allows.build_index words₂ bytes₂ r bytes₂' → Alike (calls.build (memory words) bytes).answers (calls.build (memory words₂) bytes₂).answers
  pub is_index : (words bytes words₂ bytes₂ : List ℕ) (r : ℕ) → allows.is_index words bytes r → allows.is_index words₂ bytes₂ r
      → calls.is_index (memory words) bytes ≡ calls.is_index (memory words₂) bytes₂
  pub contains : (words words₂ : List ℕ) (x y x₂ y₂ : ℕ) (r : ℕ) → allows.contains words x y r → allows.contains words₂ x₂ y₂ r
      → calls.contains (memory words) x y ≡ calls.contains (memory words₂) x₂ y₂
  pub decide : (words words₂ : List ℕ) (q q₂ : Request) (r : ℕ) → allows.decide words q r → allows.decide words₂ q₂ r
      → calls.decide (memory words) q ≡ calls.decide (memory words₂) q₂
  pub decide_indexed : (words bytes words₂ bytes₂ : List ℕ) (q q₂ : Request) (r : ℕ) → allows.decide_indexed words bytes q r
      → allows.decide_indexed words₂ bytes₂ q₂ r → calls.decide_indexed (memory words) bytes q ≡ calls.decide_indexed (memory words₂) bytes₂ q₂
  pub explain : (words words₂ : List ℕ) (q q₂ : Request) (rows rows₂ : List (List ℕ)) (r : ℕ) (rows' rows₂' : List (List ℕ))
      → allows.explain words q rows r rows' → allows.explain words₂ q₂ rows₂ r rows₂'
      → (explaining (memory words) q rows).answers ≡ (explaining (memory words₂) q₂ rows₂).answers
  pub command : (words bytes words₂ bytes₂ : List ℕ) (c c₂ : Command) (r : ℕ) (words' bytes' words₂' bytes₂' : List ℕ)
      → allows.command words bytes c r words' bytes' → allows.command words₂ bytes₂ c₂ r words₂' bytes₂'
      → Alike (calls.command (memory words) bytes c).answers (calls.command (memory words₂) bytes₂ c₂).answers
