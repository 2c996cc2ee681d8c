-- Why a right is not permitted, of one right asked over one element.
-- Assumes nothing.
use Rattle.std.specs.Prelude.{Bool, not, cond, ◌&&◌, List, ℕ, eqb, Option, Some, None}
use Rattle.model.specs.Lists.{least_of, two}
use Rattle.model.specs.Policy.{Prohibition, Policy, by_user, by_process, by_attribute, has_right}
use Rattle.model.specs.Contain.{contained}
use Rattle.model.specs.Rule.{restricts, through}
use Rattle.model.specs.Explain.{not_held, through_user, through_process, through_attribute}
use Rattle.rule.specs.declared.Asking.{Asking}
use Rattle.held.specs.Lacking.{lack_by}
use Rattle.decide.specs.Asks.{with_right, permits_over}

-- the subjects of one sort through which the right is restricted
abbrev pub subjects_through : Policy → Asking → (sort : ℕ) → List ℕ
subjects_through p q s = through (contained p q.user) (contained p q.element) p q.process q.user q.right q.element s

-- the prohibition has the sort and restricts
unfoldable pub restricts_through : Policy → Asking → (sort : ℕ) → Prohibition → Bool
restricts_through p q s b =
    eqb b.sort s && restricts (contained p q.user) (contained p q.element) p q.process q.user q.right q.element b

-- the lowest of them, 512 where there is none: subjects are below 512
unfoldable pub lowest_through : Policy → Asking → (sort : ℕ) → ℕ
lowest_through p q s = least_of 512 (subjects_through p q s)

-- which subject that number says
abbrev pub as_subject : ℕ → Option ℕ
as_subject n = cond (eqb n 512) None (Some n)

-- a cause and its number; the causes are tried from 1 up
unfoldable pub cause_for : Policy → Asking → List ℕ
cause_for p q =
    let lacks = lack_by (contained p) p q.user q.right q.element in
    cond (not (eqb lacks 512)) (two not_held lacks)
    (cond (not (eqb (lowest_through p q by_user) 512)) (two through_user (lowest_through p q by_user))
    (cond (not (eqb (lowest_through p q by_process) 512)) (two through_process (lowest_through p q by_process))
    (two through_attribute (cond (eqb (lowest_through p q by_attribute) 512) 0 (lowest_through p q by_attribute)))))

-- the cause and its number for which the right is not permitted, zeros where it is
unfoldable pub why_not : Policy → Asking → List ℕ
why_not p q = cond (permits_over (contained p) p q q.right) (two 0 0) (cause_for p q)

-- the same of right r, if it is in the set; zeros where it is not
unfoldable pub why_in : Policy → Asking → (rights r : ℕ) → List ℕ
why_in p q rights r = cond (has_right rights r) (why_not p (with_right q r)) (two 0 0)
