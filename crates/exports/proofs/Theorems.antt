-- What is claimed in specs/Claims.antt of every result that the contracts of the C face allow: there is one, and its code tells the answer.
-- Assumes nothing.
use mathlib.Core.Path.{◌≡◌, sym, ◌∙◌}
use mathlib.Core.List.{List}
use Prim.Native.Nat.{ℕ}
use Rattle.model.specs.Calls.{contains, decide, decide_indexed, save, build, is_index, command}
use Rattle.table.specs.View.{memory}
use Rattle.table.specs.Answers.{new_table}
use Rattle.explain.specs.Answers.{explaining}
use Rattle.image.specs.Answers.{load_table}
use Rattle.exports.specs.Claims.{Unique, CodesTell}
use Rattle.exports.proofs.Numbered.{new_numbered, load_numbered, build_numbered, command_numbered}
use Rattle.exports.proofs.Tells.{code_tells, decision_tells, yes_tells, save_tells, explain_tells}
use Rattle.exports.proofs.Occurs.{decide_occurs, indexed_occurs, save_occurs, explain_occurs}

-- a code and what is left, each said by an equation, are one
one_left : {A : Type 0} {a r s : ℕ} {left l m : List A} → (r ≡ a) × (l ≡ left) → (s ≡ a) × (m ≡ left) → (r ≡ s) × (l ≡ m)
one_left e f = (e.0 ∙ sym f.0, e.1 ∙ sym f.1)

-- the contract of each exported call allows one result: the code, every word, every byte and every row
pub unique : Unique
unique = record {
  new = λ words r s words' words'' e f. one_left e f;
  load = λ words image r s words' words'' e f. one_left e f;
  save = λ words bytes r s bytes' bytes'' e f. one_left e f;
  build_index = λ words bytes r s bytes' bytes'' e f. one_left e f;
  is_index = λ words bytes r s e f. e ∙ sym f;
  contains = λ words x y r s e f. e ∙ sym f;
  decide = λ words q r s e f. e ∙ sym f;
  decide_indexed = λ words bytes q r s e f. e ∙ sym f;
  explain = λ words q rows r s rows' rows'' e f. one_left e f;
  command = λ words bytes c r s words' words'' bytes' bytes'' e f. (e.code_is ∙ sym f.code_is, e.words ∙ sym f.words, e.index ∙ sym f.index);
}

-- the code of each exported call tells its answer, whatever the call was given
pub codes_tell : CodesTell
codes_tell = record {
  new = λ words words₂ r words' words₂' e f.
      code_tells (new_table words).answers (new_table words₂).answers (new_numbered words) (new_numbered words₂) (sym e.0 ∙ f.0);
  load = λ words image words₂ image₂ r words' words₂' e f.
      code_tells (load_table image words).answers (load_table image₂ words₂).answers (load_numbered image words) (load_numbered image₂ words₂) (sym e.0 ∙ f.0);
  save = λ words bytes words₂ bytes₂ r bytes' bytes₂' e f.
      save_tells (save (memory words) bytes).answers (save (memory words₂) bytes₂).answers (save_occurs words bytes) (save_occurs words₂ bytes₂) (sym e.0 ∙ f.0);
  build_index = λ words bytes words₂ bytes₂ r bytes' bytes₂' e f.
      code_tells (build (memory words) bytes).answers (build (memory words₂) bytes₂).answers (build_numbered (memory words) bytes) (build_numbered (memory words₂) bytes₂) (sym e.0 ∙ f.0);
  is_index = λ words bytes words₂ bytes₂ r e f. yes_tells (is_index (memory words) bytes) (is_index (memory words₂) bytes₂) (sym e ∙ f);
  contains = λ words words₂ x y x₂ y₂ r e f. yes_tells (contains (memory words) x y) (contains (memory words₂) x₂ y₂) (sym e ∙ f);
  decide = λ words words₂ q q₂ r e f.
      decision_tells (decide (memory words) q) (decide (memory words₂) q₂) (decide_occurs (memory words) q) (decide_occurs (memory words₂) q₂) (sym e ∙ f);
  decide_indexed = λ words bytes words₂ bytes₂ q q₂ r e f.
      decision_tells (decide_indexed (memory words) bytes q) (decide_indexed (memory words₂) bytes₂ q₂) (indexed_occurs (memory words) bytes q) (indexed_occurs (memory words₂) bytes₂ q₂) (sym e ∙ f);
  explain = λ words words₂ q q₂ rows rows₂ r rows' rows₂' e f.
      explain_tells (explaining (memory words) q rows).answers (explaining (memory words₂) q₂ rows₂).answers (explain_occurs words q rows) (explain_occurs words₂ q₂ rows₂) (sym e.0 ∙ f.0);
  command = λ words bytes words₂ bytes₂ c c₂ r words' bytes' words₂' bytes₂' e f.
      code_tells (command (memory words) bytes c).answers (command (memory words₂) bytes₂ c₂).answers (command_numbered (memory words) bytes c) (command_numbered (memory words₂) bytes₂ c₂) (sym e.code_is ∙ f.code_is);
}
