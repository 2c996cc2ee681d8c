-- What a decision answers, in the rules' numbers.
-- Assumes nothing.
use Rattle.std.specs.Prelude.{Result}
use Rattle.model.specs.Refusal.{Answer}
use Rattle.model.specs.Request.{Verdict, grant, deny}
use Rattle.answer.specs.declared.Refusal.{Refusal}
use Rattle.answer.specs.Answers as answers
use Rattle.decide.specs.declared.Decision.{Decision}
use Rattle.decide.specs.declared.Decision.TheVariants.{Grant, Deny}

-- `Grant`: granted, by the alternative with this number; `Deny`: denied
unfoldable pub verdict_of : Decision → Verdict
verdict_of (Grant k) = grant k
verdict_of Deny = deny

-- `Ok`: the verdict; `Err`: the refusal's number
abbrev pub told : Result Decision Refusal → Answer Verdict
told r = answers.told verdict_of r
