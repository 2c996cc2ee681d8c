-- What is claimed of every result of the indexed decision, in the words of 01.
-- Assumes nothing.
use Rattle.std.specs.Prelude.{◌≡◌, Result, Ok, List, ◌↔◌, ℕ}
use Rattle.model.specs.Lists.{In}
use Rattle.model.specs.Policy.{Policy}
use Rattle.model.specs.Refusal.{Line, First, None}
use Rattle.model.specs.Request.{Request as Asks, Alternative, alternatives_of}
use Rattle.model.specs.Index.{bit_at}
use Rattle.model.specs.Decided.{Told, Satisfied, Lowest}
use Rattle.answer.specs.declared.Refusal.{Refusal}
use Rattle.answer.specs.Answers.{IsRefused}
use Rattle.decide.specs.declared.Decision.{Decision}
use Rattle.decide.specs.declared.Decision.TheVariants.{Grant, Deny}

-- the result is what the rule says, with those bits read as containment: grant, deny and refusal, each exactly when
pub record ByBits (idx : List ℕ) (lines : List Line) (p : Policy) (q : Asks) (r : Result Decision Refusal) : Type 0 where
  pub grants : (k : ℕ) → (r ≡ Ok (Grant k)) ↔ (None lines × Lowest (Told (bit_at idx)) p q k)
  pub denies : (r ≡ Ok Deny) ↔ (None lines × ((a : Alternative) → In a (alternatives_of q) → Satisfied (Told (bit_at idx)) p q a → ⊥))
  pub refuses : (n : ℕ) → IsRefused r n ↔ First n lines
