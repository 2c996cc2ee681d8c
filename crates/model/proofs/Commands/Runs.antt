-- A sequence of commands, refused ones among them, keeps a sound policy sound.
-- Assumes nothing.
use mathlib.Core.Path.{◌≡◌, refl}
use mathlib.Core.Bool.{Bool, true, false, cond}
use mathlib.Core.List.{List, [], ◌∷◌}
use borrow.Author.Tests.{eqb-true}
use lib.Dec.{eqb}
use Rattle.model.specs.Lists.{all_of}
use Rattle.model.specs.Policy.{Policy, empty_policy}
use Rattle.model.specs.Sound.{Sound}
use Rattle.model.specs.Command.{Command, fits, command_refusal, after, step}
use Rattle.model.specs.History.{run}
use Rattle.model.proofs.Definitions.{definitions}
use Rattle.model.proofs.Truth.{and_left, and_right}
use Rattle.model.proofs.Commands.Keeps.{after_sound}

-- the empty policy is sound
pub empty_sound : Sound empty_policy
unfolding definitions
empty_sound = record { limits = refl; fields = refl; order = refl; names = refl; acyclic = refl; assigned = refl }

-- a command, accepted or refused, leaves a sound policy
pub step_sound : (p : Policy) → Sound p → (c : Command) → fits c ≡ true → Sound (step p c)
unfolding step
step_sound p s c f = go (eqb (command_refusal p c) 0) refl
  where
    go : (t : Bool) → eqb (command_refusal p c) 0 ≡ t → Sound (cond t (after p c) p)
    go true e = after_sound p s c f (eqb-true (command_refusal p c) 0 e)
    go false e = s

-- Any sequence of commands leaves a sound policy.
pub run_sound : (p : Policy) → Sound p → (cs : List Command) → all_of fits cs ≡ true → Sound (run p cs)
unfolding run all_of
run_sound p s [] f = s
run_sound p s (c ∷ cs) f = run_sound (step p c) (step_sound p s c (and_left (fits c) (all_of fits cs) f)) cs (and_right (fits c) (all_of fits cs) f)
