-- 01, "Containment and the decision", the explanation call: "answers the same as the plain decision and fills lent rows".
-- Assumes nothing.
use Rattle.std.specs.Prelude.{Bool, not, cond, List, [], ◌∷◌, ◌++◌, map, ℕ, suc, pred, ltb, length, get_or}
use Rattle.model.specs.Lists.{those, empty, least_of, lowest_of}
use Rattle.model.specs.Policy.{Association, Policy, by_user, by_process, by_attribute, association_fields, user_of}
use Rattle.model.specs.Rule.{classes_of, gives, given_in, held_by, through}
use Rattle.model.specs.Refusal.{Line, ◌when◌, Answer, answer}
use Rattle.model.specs.Request.{Request, Alternative, Asked, asked_of, alternatives_of, Verdict, grant, deny, permitted, verdict, out_of_range, absent, mismatched}

-- A grant row has cause 0, the class as its number, and the association; a deny row has zeros for the association.
pub record Row : Type 0 where
  pub alternative : ℕ
  pub argument : ℕ
  pub right : ℕ
  pub cause : ℕ
  pub number : ℕ
  pub attribute : ℕ
  pub target : ℕ
  pub rights : ℕ

-- the causes, by their numbers
abbrev pub not_held : ℕ
not_held = 1

abbrev pub through_user : ℕ
through_user = 2

abbrev pub through_process : ℕ
through_process = 3

abbrev pub through_attribute : ℕ
through_attribute = 4

-- the least of a list, 0 where it is empty
abbrev pub least_or0 : List ℕ → ℕ
least_or0 [] = 0
least_or0 (x ∷ l) = least_of x l

-- the lowest "by user attribute, target, then rights as a number", zeros where there is none
abbrev pub lowest_association : List Association → Association
lowest_association [] = record { attribute = 0; target = 0; rights = 0 }
lowest_association (a ∷ l) = lowest_of association_fields a l

module _ {A B : Type 0} where
  -- f of each, one after another
  unfoldable pub joined : (A → List B) → List A → List B
  joined f [] = []
  joined f (a ∷ l) = f a ++ joined f l

-- Why a right is not permitted: a cause and a number.
pub record Cause : Type 0 where
  pub cause : ℕ
  pub number : ℕ

module _ (W : ℕ → ℕ → Bool) (p : Policy) (q : Request) where
  -- the associations that authorize a right over an element in a class
  unfoldable pub authorizing : Asked → (c : ℕ) → List Association
  authorizing a c = those (gives (W (user_of p q.process)) (W a.element) W a.right c) p.associations

  -- "one row for each argument, right and containing class, all rising, with the lowest authorizing association"
  unfoldable pub grant_row : (k : ℕ) → Asked → (c : ℕ) → Row
  grant_row k a c =
      let best = lowest_association (authorizing a c) in
      record {
        alternative = k;
        argument = a.argument;
        right = a.right;
        cause = 0;
        number = c;
        attribute = best.attribute;
        target = best.target;
        rights = best.rights;
      }

  -- all of them, for one alternative
  unfoldable pub grant_rows : (k : ℕ) → Alternative → List Row
  grant_rows k alternative = joined (λ a. map (grant_row k a) (classes_of (W a.element) p)) (asked_of alternative q)

  -- the classes of the element that lack the right
  unfoldable pub lacking : Asked → List ℕ
  lacking a = those (λ c. not (given_in (W (user_of p q.process)) (W a.element) W p a.right c)) (classes_of (W a.element) p)

  -- the subjects of one sort through which the right is restricted
  unfoldable pub through_sort : Asked → (sort : ℕ) → List ℕ
  through_sort a s = through (W (user_of p q.process)) (W a.element) p q.process (user_of p q.process) a.right a.element s

  -- "cause 1, right not held, the lowest class that lacks it (0 if there is no class); causes 2, 3, 4, restricted through user, process or
  -- attribute, with the lowest subject id; the causes are tried from 1 up"
  unfoldable pub cause_of : Asked → Cause
  cause_of a =
      cond (not (held_by (W (user_of p q.process)) (W a.element) W p a.right))
      (record { cause = not_held; number = least_or0 (lacking a) })
      (cond (not (empty (through_sort a by_user)))
      (record { cause = through_user; number = least_or0 (through_sort a by_user) })
      (cond (not (empty (through_sort a by_process)))
      (record { cause = through_process; number = least_or0 (through_sort a by_process) })
      (record { cause = through_attribute; number = least_or0 (through_sort a by_attribute) })))

  -- what fails of an alternative, in order
  unfoldable pub failing : Alternative → List Asked
  failing alternative = those (λ a. not (permitted W p q a)) (asked_of alternative q)

  -- "one row for each alternative, with its first failing argument and right, a cause and a number"
  unfoldable pub deny_row : (k : ℕ) → Asked → Row
  deny_row k a =
      record {
        alternative = k;
        argument = a.argument;
        right = a.right;
        cause = (cause_of a).cause;
        number = (cause_of a).number;
        attribute = 0;
        target = 0;
        rights = 0;
      }

  -- the row of the first that fails
  unfoldable pub first_failing : (k : ℕ) → List Asked → List Row
  first_failing k [] = []
  first_failing k (a ∷ l) = deny_row k a ∷ []

  -- the rows of the alternatives, the first number given
  unfoldable pub deny_rows : (k : ℕ) → List Alternative → List Row
  deny_rows k [] = []
  deny_rows k (alternative ∷ more) = first_failing k (failing alternative) ++ deny_rows (suc k) more

  -- the rows that belong to a verdict
  unfoldable pub rows_of : Verdict → List Row
  rows_of (grant k) = grant_rows k (get_or (alternatives_of q) (pred k) [])
  rows_of deny = deny_rows 1 (alternatives_of q)

  -- the rows of the request
  unfoldable pub rows : List Row
  rows = rows_of (verdict W p q)

-- What the explanation answers: the verdict, and how many rows it filled.
pub record Explained : Type 0 where
  pub verdict : Verdict
  pub count : ℕ

-- "10: .. the lent rows .. are too few"
abbrev pub explain_lines : (W : ℕ → ℕ → Bool) (holds_table : Bool) (room : ℕ) → Policy → Request → List Line
explain_lines W holds_table room p q =
    (1 when not holds_table) ∷ (2 when out_of_range q) ∷ (4 when absent p q) ∷ (5 when mismatched p q) ∷ (10 when ltb room (length (rows W p q))) ∷ []

-- the explanation's answer, given how many rows are lent
unfoldable pub explanation : (W : ℕ → ℕ → Bool) (holds_table : Bool) (room : ℕ) → Policy → Request → Answer Explained
explanation W holds_table room p q =
    answer (explain_lines W holds_table room p q) (record { verdict = verdict W p q; count = length (rows W p q) })
