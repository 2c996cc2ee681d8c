-- What the plain containment call answers.
-- Assumes nothing.
use Rattle.std.specs.Prelude.{Bool, Result}
use Rattle.model.specs.Refusal.{Answer}
use Rattle.answer.specs.declared.Refusal.{Refusal}
use Rattle.answer.specs.Answers as answers

-- `Ok`: whether x is within y; `Err`: the refusal's number
abbrev pub told : Result Bool Refusal → Answer Bool
told r = answers.told (λ b. b) r
