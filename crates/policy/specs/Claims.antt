-- What is claimed of every result that the contracts of the public calls allow, one record for each headline theorem. proofs/Theorems.antt proves
-- them: the theorem `refusals_exact` is of type `RefusalsExact`, and so on.
-- Assumes nothing.
use Rattle.std.specs.Prelude.{◌≡◌, Bool, Result, Ok, true, false, List, ◌++◌, ◌↔◌, ℕ, ◌≤◌, ◌<◌, eqb, length, take, drop}
use Rattle.model.specs.Bits.{are_bytes}
use Rattle.model.specs.Lists.{In}
use Rattle.model.specs.Policy.{Policy, is_there}
use Rattle.model.specs.Contain.{Within, contained}
use Rattle.model.specs.Sound.{Sound}
use Rattle.model.specs.Refusal.{Line, First, None}
use Rattle.model.specs.Request.{Alternative, arguments_of, kinds_of, alternatives_of, request_lines, indexed_lines}
use Rattle.model.specs.Explain.{rows as rows_for, explain_lines}
use Rattle.model.specs.Command.{Command, new_lines, command_lines}
use Rattle.model.specs.Image.{image_of, load_lines, save_lines}
use Rattle.model.specs.Index.{index_of, bit_at, index_lines, contain_lines}
use Rattle.model.specs.Calls.{lent}
use Rattle.model.specs.Decided.{ClassOf, Satisfied, Lowest}
use Rattle.table.specs.Layout.{word_count}
use Rattle.table.specs.View.{holds_table, policy_of, memory}
use Rattle.answer.specs.declared.Refusal.{Refusal}
use Rattle.answer.specs.Answers.{IsRefused}
use Rattle.request.specs.Asks.{request_of}
use Rattle.request.specs.declared.Request.{Request}
use Rattle.decide.specs.declared.Decision.{Decision}
use Rattle.decide.specs.declared.Decision.TheVariants as decision
use Rattle.decide.specs.Results.{ByBits}
use Rattle.explain.specs.Answers.{numbers}
use Rattle.explain.specs.declared.Explanation.{Explanation}
use Rattle.explain.specs.declared.Explanation.TheVariants as explanation
use Rattle.explain.specs.Results.{AsDecided, RowsExact as RowsInFront, GrantRows, DenyRows}
use Rattle.rows.specs.declared.Row.{Row}
use Rattle.rows.specs.Rows.{numbers_in}
use Rattle.history.specs.Steps.{Begun, Built, Step, Run}
use Rattle.history.specs.Standing.{Standing}
use Rattle.policy.specs.Allows as allows

-- "each is given exactly when its line holds and none before it does": n is answered exactly if n's line is the first of the call's that holds
abbrev pub GivenExactly : {T : Type 0} (lines : List Line) (r : Result T Refusal) → Type 0
GivenExactly lines r = (n : ℕ) → IsRefused r n ↔ First n lines

-- the same of a call that is lent something to write, with "A refused call .. writes nothing."
pub record Refuses {T : Type 0} (lines : List Line) (r : Result T Refusal) (unwritten : Type 0) : Type 0 where
  pub exactly : GivenExactly lines r
  pub untouched : (n : ℕ) → IsRefused r n → unwritten

-- refusals_exact. Each refusal of each call is given exactly if its line holds and none before it does, and a refused call leaves every word, byte
-- and row that it was lent.
pub record RefusalsExact : Type 0 where
  pub new : (words words' : List ℕ) (r : Result (Unit {0}) Refusal) → allows.new words r words'
      → Refuses (new_lines (eqb (length words) word_count)) r (words' ≡ words)
  pub load : (words image words' : List ℕ) (r : Result (Unit {0}) Refusal) → allows.load words image r words'
      → Refuses (load_lines (eqb (length words) word_count) image) r (words' ≡ words)
  pub save : (words bytes bytes' : List ℕ) (r : Result ℕ Refusal) → allows.save words bytes r bytes'
      → Refuses (save_lines (holds_table words) (length bytes) (policy_of words)) r (bytes' ≡ bytes)
  pub build_index : (words bytes bytes' : List ℕ) (r : Result (Unit {0}) Refusal) → allows.build_index words bytes r bytes'
      → Refuses (index_lines (lent (memory words) bytes)) r (bytes' ≡ bytes)
  pub is_index : (words bytes : List ℕ) (r : Result Bool Refusal) → allows.is_index words bytes r
      → GivenExactly (index_lines (lent (memory words) bytes)) r
  pub contains : (words : List ℕ) (x y : ℕ) (r : Result Bool Refusal) → allows.contains words x y r
      → GivenExactly (contain_lines (holds_table words) (policy_of words) x y) r
  pub decide : (words : List ℕ) (q : Request) (r : Result Decision Refusal) → allows.decide words q r
      → GivenExactly (request_lines (holds_table words) (policy_of words) (request_of q)) r
  pub decide_indexed : (words bytes : List ℕ) (q : Request) (r : Result Decision Refusal) → allows.decide_indexed words bytes q r
      → GivenExactly (indexed_lines (lent (memory words) bytes) (policy_of words) (request_of q)) r
  pub explain_numbers : (words : List ℕ) (q : Request) (rows rows' : List (List ℕ)) (r : Result Explanation Refusal) → allows.explain_numbers words q rows r rows'
      → Refuses (explain_lines (contained (policy_of words)) (holds_table words) (length rows) (policy_of words) (request_of q)) r (rows' ≡ rows)
  pub explain : (words : List ℕ) (q : Request) (rows rows' : List Row) (r : Result Explanation Refusal) → allows.explain words q rows r rows'
      → Refuses (explain_lines (contained (policy_of words)) (holds_table words) (length rows) (policy_of words) (request_of q)) r (rows' ≡ rows)
  pub command : (words bytes : List ℕ) (c : Command) (r : Result (Unit {0}) Refusal) (words' bytes' : List ℕ) → allows.command words bytes c r words' bytes'
      → Refuses (command_lines (lent (memory words) bytes) (policy_of words) c) r ((words' ≡ words) × (bytes' ≡ bytes))

-- contains_exact. Containment, by chains of assignments.
pub record ContainsExact : Type 0 where
  -- within exactly if no line refuses the call and "x is y or a chain of assignments leads from x to y"
  pub within : (words : List ℕ) (x y : ℕ) (r : Result Bool Refusal) → allows.contains words x y r → (r ≡ Ok true)
      ↔ (None (contain_lines (holds_table words) (policy_of words) x y) × Within (policy_of words).assignments x y)
  -- outside exactly if no line refuses the call and there is no such chain
  pub outside : (words : List ℕ) (x y : ℕ) (r : Result Bool Refusal) → allows.contains words x y r → (r ≡ Ok false)
      ↔ (None (contain_lines (holds_table words) (policy_of words) x y) × (Within (policy_of words).assignments x y → ⊥))

-- index_exact. The containment index.
pub record IndexExact : Type 0 where
  -- "A call tells whether an index is the table's.": the same exactly if no line refuses the call and every byte is that of the index
  pub same : (words bytes : List ℕ) (r : Result Bool Refusal) → allows.is_index words bytes r → (r ≡ Ok true)
      ↔ (None (index_lines (lent (memory words) bytes)) × (bytes ≡ index_of (policy_of words)))
  -- another exactly if no line refuses the call and not every byte is
  pub other : (words bytes : List ℕ) (r : Result Bool Refusal) → allows.is_index words bytes r → (r ≡ Ok false)
      ↔ (None (index_lines (lent (memory words) bytes)) × (bytes ≡ index_of (policy_of words) → ⊥))
  -- the index is built exactly if no line refuses the call
  pub done : (words bytes bytes' : List ℕ) (r : Result (Unit {0}) Refusal) → allows.build_index words bytes r bytes' → (r ≡ Ok tt)
      ↔ None (index_lines (lent (memory words) bytes))
  -- then every byte is that of the index
  pub built : (words bytes bytes' : List ℕ) (r : Result (Unit {0}) Refusal) → allows.build_index words bytes r bytes' → r ≡ Ok tt
      → bytes' ≡ index_of (policy_of words)
  -- "Byte 64x + y/8, bit 7 - (y mod 8), is 1 exactly when x and y exist and x is within y."
  pub bits : (words bytes bytes' : List ℕ) (r : Result (Unit {0}) Refusal) → allows.build_index words bytes r bytes' → r ≡ Ok tt
      → (x y : ℕ) → x < 512 → y < 512 → (bit_at bytes' x y ≡ true)
      ↔ ((is_there (policy_of words) x ≡ true) × (is_there (policy_of words) y ≡ true) × Within (policy_of words).assignments x y)
  -- "Row and column 0 are zero."
  pub row_0 : (words bytes bytes' : List ℕ) (r : Result (Unit {0}) Refusal) → allows.build_index words bytes r bytes' → r ≡ Ok tt
      → (y : ℕ) → y < 512 → bit_at bytes' 0 y ≡ false
  pub column_0 : (words bytes bytes' : List ℕ) (r : Result (Unit {0}) Refusal) → allows.build_index words bytes r bytes' → r ≡ Ok tt
      → (x : ℕ) → x < 512 → bit_at bytes' x 0 ≡ false

-- grant_exact. The plain decision, containment being chains of assignments.
pub record GrantExact : Type 0 where
  -- granted with alternative k exactly if no line refuses the request and k is the lowest alternative of which each right of each argument is held and
  -- not restricted
  pub granted : (words : List ℕ) (q : Request) (r : Result Decision Refusal) → allows.decide words q r → (k : ℕ) → (r ≡ Ok (decision.Grant k))
      ↔ (None (request_lines (holds_table words) (policy_of words) (request_of q)) × Lowest (Within (policy_of words).assignments) (policy_of words) (request_of q) k)
  -- denied exactly if no line refuses the request and there is no such alternative
  pub denied : (words : List ℕ) (q : Request) (r : Result Decision Refusal) → allows.decide words q r → (r ≡ Ok decision.Deny)
      ↔ (None (request_lines (holds_table words) (policy_of words) (request_of q))
      × ((a : Alternative) → In a (alternatives_of (request_of q)) → Satisfied (Within (policy_of words).assignments) (policy_of words) (request_of q) a → ⊥))
  -- "A table with an element in no class .. denies that element": it is denied where no line refuses the request and an argument that its operation uses
  -- is in no class
  pub unclassed_denied : (words : List ℕ) (q : Request) (r : Result Decision Refusal) → allows.decide words q r
      → None (request_lines (holds_table words) (policy_of words) (request_of q))
      → (x : ℕ) → In x (take (length (kinds_of (request_of q))) (arguments_of (request_of q)))
      → ((c : ℕ) → ClassOf (Within (policy_of words).assignments) (policy_of words) x c → ⊥) → r ≡ Ok decision.Deny

-- indexed_over_any_bytes. The indexed decision is the rule with the bits of the lent bytes read as containment.
pub record IndexedOverAnyBytes : Type 0 where
  -- over any 32,768 bytes, with the refusals of the plain decision
  pub bytes : (words bytes : List ℕ) (q : Request) (r : Result Decision Refusal) → allows.decide_indexed words bytes q r → length bytes ≡ 32768
      → ByBits bytes (request_lines (holds_table words) (policy_of words) (request_of q)) (policy_of words) (request_of q) r
  -- over bytes of any number, with its own refusals: 2 besides, where they are not 32,768
  pub any_number : (words bytes : List ℕ) (q : Request) (r : Result Decision Refusal) → allows.decide_indexed words bytes q r
      → ByBits bytes (indexed_lines (lent (memory words) bytes) (policy_of words) (request_of q)) (policy_of words) (request_of q) r

-- indexed_as_plain. On a table whose policy is sound, with the policy's index, both decisions have the same result, for every process, operation and
-- argument, in and out of range.
abbrev pub IndexedAsPlain : Type 0
IndexedAsPlain = (words bytes : List ℕ) (q : Request) (r s : Result Decision Refusal) → holds_table words ≡ true → Sound (policy_of words) → bytes ≡ index_of (policy_of words)
    → allows.decide words q r → allows.decide_indexed words bytes q s → r ≡ s

-- rows_exact. The explanation.
pub record RowsExact : Type 0 where
  -- it answers as the plain decision does, with the number of rows; and 10 exactly where the decision is no refusal and the lent rows are too few
  pub as_decided : (words : List ℕ) (q : Request) (rows rows' : List (List ℕ)) (r : Result Explanation Refusal) → allows.explain_numbers words q rows r rows'
      → (d : Result Decision Refusal) → allows.decide words q d
      → AsDecided d (length rows) (length (rows_for (contained (policy_of words)) (policy_of words) (request_of q))) r
  -- an accepted one leaves the rows of the request in front, as many as it answers, and every other row as it was; a refused one every row as it was
  pub in_front : (words : List ℕ) (q : Request) (rows rows' : List (List ℕ)) (r : Result Explanation Refusal) → allows.explain_numbers words q rows r rows'
      → RowsInFront r (numbers (policy_of words) (request_of q)) rows rows'
  -- the rows of a grant: one for exactly each argument, right and containing class, rising, each with the lowest authorizing association
  pub of_grant : (words : List ℕ) (q : Request) (rows rows' : List (List ℕ)) (r : Result Explanation Refusal) → allows.explain_numbers words q rows r rows'
      → (k n : ℕ) → r ≡ Ok (explanation.Grant k n) → GrantRows (policy_of words) (request_of q) k
  -- the rows of a deny: one for each alternative, with its first failing argument and right, the cause and the number
  pub of_deny : (words : List ℕ) (q : Request) (rows rows' : List (List ℕ)) (r : Result Explanation Refusal) → allows.explain_numbers words q rows r rows'
      → (n : ℕ) → r ≡ Ok (explanation.Deny n) → DenyRows (policy_of words) (request_of q)
  -- the explanation in structs answers and leaves, row by row, what the explanation in numbers does on the numbers of its rows: all of this is true of it
  pub in_structs : (words : List ℕ) (q : Request) (rows rows' : List Row) (r : Result Explanation Refusal) → allows.explain words q rows r rows'
      → allows.explain_numbers words q (numbers_in rows) r (numbers_in rows')

-- image_of_policy. What save writes.
pub record ImageOfPolicy : Type 0 where
  -- as many bytes as it answers, the first of those lent, are the image of the table's policy
  pub image : (words bytes bytes' : List ℕ) (n : ℕ) → allows.save words bytes (Ok n) bytes' → take n bytes' ≡ image_of (policy_of words)
  -- that is how long the image is
  pub as_long : (words bytes bytes' : List ℕ) (n : ℕ) → allows.save words bytes (Ok n) bytes' → n ≡ length (image_of (policy_of words))
  -- "no byte beyond"
  pub no_byte_beyond : (words bytes bytes' : List ℕ) (n : ℕ) → allows.save words bytes (Ok n) bytes' → drop n bytes' ≡ drop n bytes
  -- "The longest image is 15,115 bytes.": any table is saved where there are as many
  pub enough : (words bytes bytes' : List ℕ) (r : Result ℕ Refusal) → allows.save words bytes r bytes' → holds_table words ≡ true → 15115 ≤ length bytes
      → r ≡ Ok (length (image_of (policy_of words)))

-- policy_of_image. What load makes of what save wrote, and save of what load accepted.
pub record PolicyOfImage : Type 0 where
  -- the bytes saved from a table of a sound policy are accepted by load, on any words of the published length, and give that policy
  pub read_back : (words bytes bytes' : List ℕ) (n : ℕ) → allows.save words bytes (Ok n) bytes' → Sound (policy_of words)
      → (other other' : List ℕ) (r : Result (Unit {0}) Refusal) → allows.load other (take n bytes') r other' → length other ≡ word_count
      → (r ≡ Ok tt) × (policy_of other' ≡ policy_of words)
  -- "Saving what load accepted gives the same image.": wherever the lent bytes suffice, the same bytes, and no byte beyond
  pub written_again : (words image words' : List ℕ) → allows.load words image (Ok tt) words' → are_bytes image ≡ true
      → (bytes bytes' : List ℕ) (r : Result ℕ Refusal) → allows.save words' bytes r bytes' → length image ≤ length bytes
      → (r ≡ Ok (length image)) × (bytes' ≡ image ++ drop (length image) bytes)
  -- tables of sound policies that were saved as the same bytes are the same policy
  pub one_policy : (words bytes bytes' : List ℕ) (n : ℕ) → allows.save words bytes (Ok n) bytes' → Sound (policy_of words)
      → (words₂ bytes₂ bytes₂' : List ℕ) (n₂ : ℕ) → allows.save words₂ bytes₂ (Ok n₂) bytes₂' → Sound (policy_of words₂)
      → take n bytes' ≡ take n₂ bytes₂' → policy_of words ≡ policy_of words₂

-- history. From a table that new or load made, with the index built for it, after any run of commands, refused ones among them: what `Standing` says of
-- the last words and the last bytes. `Begun`, `Built` and `Run` hold the contracts of new, load, build_index and the commands themselves.
abbrev pub History : Type 0
History = (start : Policy) (words bytes : List ℕ) → Begun start words → Built words bytes
    → (steps : List Step) (words' bytes' : List ℕ) → Run words bytes steps words' bytes' → Standing start steps words' bytes'

-- index_blind. Two calls of a command on the same words with two indexes of the same length have the same outcome and leave the same words.
abbrev pub IndexBlind : Type 0
IndexBlind = (words bytes bytes₂ : List ℕ) (c : Command) (r s : Result (Unit {0}) Refusal) (words' bytes' words₂' bytes₂' : List ℕ) → length bytes ≡ length bytes₂
    → allows.command words bytes c r words' bytes' → allows.command words bytes₂ c s words₂' bytes₂' → (r ≡ s) × (words' ≡ words₂')

-- unique. Any two results that a contract allows are equal: the answer, and every word, byte and row that was lent to be written.
pub record Unique : Type 0 where
  pub new : (words : List ℕ) (r s : Result (Unit {0}) Refusal) (words' words'' : List ℕ) → allows.new words r words' → allows.new words s words'' → (r ≡ s) × (words' ≡ words'')
  pub load : (words image : List ℕ) (r s : Result (Unit {0}) Refusal) (words' words'' : List ℕ) → allows.load words image r words' → allows.load words image s words''
      → (r ≡ s) × (words' ≡ words'')
  pub save : (words bytes : List ℕ) (r s : Result ℕ Refusal) (bytes' bytes'' : List ℕ) → allows.save words bytes r bytes' → allows.save words bytes s bytes''
      → (r ≡ s) × (bytes' ≡ bytes'')
  pub build_index : (words bytes : List ℕ) (r s : Result (Unit {0}) Refusal) (bytes' bytes'' : List ℕ) → allows.build_index words bytes r bytes'
      → allows.build_index words bytes s bytes'' → (r ≡ s) × (bytes' ≡ bytes'')
  pub is_index : (words bytes : List ℕ) (r s : Result Bool Refusal) → allows.is_index words bytes r → allows.is_index words bytes s → r ≡ s
  pub contains : (words : List ℕ) (x y : ℕ) (r s : Result Bool Refusal) → allows.contains words x y r → allows.contains words x y s → r ≡ s
  pub decide : (words : List ℕ) (q : Request) (r s : Result Decision Refusal) → allows.decide words q r → allows.decide words q s → r ≡ s
  pub decide_indexed : (words bytes : List ℕ) (q : Request) (r s : Result Decision Refusal) → allows.decide_indexed words bytes q r → allows.decide_indexed words bytes q s
      → r ≡ s
  pub explain_numbers : (words : List ℕ) (q : Request) (rows : List (List ℕ)) (r s : Result Explanation Refusal) (rows' rows'' : List (List ℕ))
      → allows.explain_numbers words q rows r rows' → allows.explain_numbers words q rows s rows'' → (r ≡ s) × (rows' ≡ rows'')
  pub explain : (words : List ℕ) (q : Request) (rows : List Row) (r s : Result Explanation Refusal) (rows' rows'' : List Row)
      → allows.explain words q rows r rows' → allows.explain words q rows s rows'' → (r ≡ s) × (rows' ≡ rows'')
  pub command : (words bytes : List ℕ) (c : Command) (r s : Result (Unit {0}) Refusal) (words' words'' bytes' bytes'' : List ℕ)
      → allows.command words bytes c r words' bytes' → allows.command words bytes c s words'' bytes'' → (r ≡ s) × (words' ≡ words'') × (bytes' ≡ bytes'')
