-- One step of a run.
-- Assumes nothing.
use mathlib.Core.Path.{◌≡◌, refl, sym, ap, ◌∙◌, fun_ext}
use mathlib.Core.Bool.{Bool, true, false, cond}
use mathlib.Core.List.{List, ◌∷◌}
use Rattle.model.specs.Sound.{Sound}
use Rattle.model.specs.Command.{Command, after}
use Rattle.model.specs.History.{Item, holds, stands}
use Rattle.model.specs.Calls.{kept, command}
use Rattle.model.proofs.Commands.Stands.{step_holds}
use Rattle.table.specs.View.{policy_of}
use Rattle.table.specs.Answers.{told}
use Rattle.std.specs.Prelude.{Result, Ok, Err}
use Rattle.answer.specs.declared.Refusal.{Refusal}
use Rattle.answer.specs.Answers as answers
use Rattle.command.proofs.Theorems.{policy_after, table_stays, index_kept, sound_stays}
use Rattle.history.specs.Steps.{Step, Meets, is_done}
use Rattle.history.proofs.Beginnings.{Kept}

-- what was kept so far is kept by every step, done or refused
pub step_kept : (s : Step) → Meets s → Kept s.words s.bytes → Kept s.words' s.bytes'
step_kept s m k = record {
  table = table_stays m.call k.table;
  sound = sound_stays m.call m.passable k.sound;
  index = index_kept m.call k.index;
}

-- the policy after a step: the one after the command where it was done, else the one before
pub step_policy : (s : Step) → Meets s
    → policy_of s.words' ≡ cond (is_done s.outcome) (after (policy_of s.words) s.command) (policy_of s.words)
unfolding command kept answers.told is_done
step_policy s m =
    policy_after m.call
    ∙ ap (λ a. kept a (after (policy_of s.words) s.command) (policy_of s.words)) (sym m.call.answers)
    ∙ go s.outcome
  where
    go : (r : Result (Unit {0}) Refusal)
        → kept (told r (policy_of s.words')) (after (policy_of s.words) s.command) (policy_of s.words)
        ≡ cond (is_done r) (after (policy_of s.words) s.command) (policy_of s.words)
    go (Ok x) = refl
    go (Err x) = refl

-- what stands after the step's command, if it was done, and more commands is what stands after those from where the step led
pub step_stands : (s : Step) → Meets s → Sound (policy_of s.words) → (log : List Command) (i : Item)
    → stands (holds (policy_of s.words')) log i ≡ stands (holds (policy_of s.words)) (cond (is_done s.outcome) (s.command ∷ log) log) i
unfolding stands
step_stands s m sound log i = ap (λ p. stands (holds p) log i) (step_policy s m) ∙ go (is_done s.outcome)
  where
    go : (t : Bool) → stands (holds (cond t (after (policy_of s.words) s.command) (policy_of s.words))) log i
        ≡ stands (holds (policy_of s.words)) (cond t (s.command ∷ log) log) i
    go true = ap (λ h. stands h log i) (fun_ext (step_holds (policy_of s.words) sound s.command))
    go false = refl
