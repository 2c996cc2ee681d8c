-- The row of an alternative that is not satisfied, as numbers: its first failing argument and right, and why.
-- Assumes nothing.
use Rattle.std.specs.Prelude.{false, not, cond, List, [], ◌∷◌, ℕ, ltb, get_or}
use Rattle.model.specs.Lists.{those}
use Rattle.model.specs.Policy.{Policy}
use Rattle.model.specs.Contain.{contained}
use Rattle.request.specs.Sets.{rights_in}
use Rattle.rule.specs.declared.Asking.{Asking}
use Rattle.request.specs.declared.Request.{Request}
use Rattle.decide.specs.Asks.{asking_of, with_right, permits_over}
use Rattle.denials.specs.Causes.{cause_for}

-- the first of some rights, 32 where there is none
abbrev pub first_or32 : List ℕ → ℕ
first_or32 [] = 32
first_or32 (r ∷ l) = r

-- the first right of a set that is not permitted over the element, 32 where each is
unfoldable pub first_failing_right : Policy → Asking → (rights : ℕ) → ℕ
first_failing_right p q rights = first_or32 (those (λ r. not (permits_over (contained p) p q r)) (rights_in rights))

-- the row that says why the right is not permitted over the argument at position k
unfoldable pub failing_numbers : Policy → Asking → (alternative k : ℕ) → List ℕ
failing_numbers p q alternative k = alternative ∷ k ∷ q.right ∷ get_or (cause_for p q) 0 0 ∷ get_or (cause_for p q) 1 0 ∷ 0 ∷ 0 ∷ 0 ∷ []

-- the row of the first right of a set that is not permitted, zeros where each is
unfoldable pub failing_row : Policy → Asking → (rights alternative k : ℕ) → List ℕ
failing_row p q rights alternative k =
    let r = first_failing_right p q rights in
    cond (ltb r 32) (failing_numbers p (with_right q r) alternative k) (0 ∷ 0 ∷ 0 ∷ 0 ∷ 0 ∷ 0 ∷ 0 ∷ 0 ∷ [])

-- the row of an alternative: the first argument over which some right of its set is not permitted
unfoldable pub deny_numbers : Policy → Request → (user alternative : ℕ) (sets : List ℕ) → List ℕ
deny_numbers p q user alternative sets =
    let first = asking_of q user false q.first 1 0 in
    let second = asking_of q user false q.second 2 0 in
    let third = asking_of q user false q.third 3 0 in
    let r = first_failing_right p first (get_or sets 0 0) in
    let s = first_failing_right p second (get_or sets 1 0) in
    let t = first_failing_right p third (get_or sets 2 0) in
    cond (ltb r 32) (failing_numbers p (with_right first r) alternative 1)
    (cond (ltb s 32) (failing_numbers p (with_right second s) alternative 2)
    (failing_numbers p (with_right third t) alternative 3))
