-- What is claimed of every result of the explanation, in the words of 01: its answer beside the decision's, the lent rows afterwards, and what the
-- rows of a grant and of a deny are.
-- Assumes nothing.
use Rattle.std.specs.Prelude.{◌≡◌, Result, Ok, Err, true, List, [], ◌∷◌, ◌↔◌, ℕ, ◌+◌, ◌≤◌, ◌<◌, length, get_or, take, drop}
use Rattle.model.specs.Lists.{In, rising}
use Rattle.model.specs.Policy.{Policy}
use Rattle.model.specs.Contain.{contained}
use Rattle.model.specs.Request.{Request as Asks, alternatives_of}
use Rattle.model.specs.Explain.{Row, rows}
use Rattle.model.specs.Decided.{Told, Lowest}
use Rattle.model.specs.RowRule.{row_place, GrantRowOf, LowestNamed, DenyRowOf, Why}
use Rattle.answer.specs.declared.Refusal.{Refusal}
use Rattle.answer.specs.declared.Refusal.TheVariants.{NoRoom}
use Rattle.decide.specs.declared.Decision.{Decision}
use Rattle.decide.specs.declared.Decision.TheVariants.{Grant as Grants, Deny as Denies}
use Rattle.explain.specs.declared.Explanation.{Explanation}
use Rattle.explain.specs.declared.Explanation.TheVariants.{Grant, Deny}

-- the explanation r answers as the decision d does, where `room` rows are lent and `count` are needed: refused alike, granted by the same
-- alternative and denied alike, with the number of rows; and 10 exactly if the decision is no refusal and the lent rows are too few
pub record AsDecided (d : Result Decision Refusal) (room count : ℕ) (r : Result Explanation Refusal) : Type 0 where
  pub refuses : (x : Refusal) → d ≡ Err x → r ≡ Err x
  pub grants : (k : ℕ) → d ≡ Ok (Grants k) → count ≤ room → r ≡ Ok (Grant k count)
  pub denies : d ≡ Ok Denies → count ≤ room → r ≡ Ok (Deny count)
  pub too_few : (r ≡ Err NoRoom) ↔ (((x : Refusal) → d ≡ Err x → ⊥) × (room < count))

-- the lent rows afterwards: the first n are the rows that are written, the others are as they were
pub record Written (written room out : List (List ℕ)) (n : ℕ) : Type 0 where
  pub count : n ≡ length written
  pub first : take n out ≡ written
  pub others : drop n out ≡ drop n room

-- where r is accepted its rows are written and the others are as they were; where it is refused all rows are as they were
pub record RowsExact (r : Result Explanation Refusal) (written room out : List (List ℕ)) : Type 0 where
  pub granted : (k n : ℕ) → r ≡ Ok (Grant k n) → Written written room out n
  pub denied : (n : ℕ) → r ≡ Ok (Deny n) → Written written room out n
  pub refused : (x : Refusal) → r ≡ Err x → out ≡ room

module _ (p : Policy) (q : Asks) where
  -- "Grant: one row for each argument, right and containing class, all rising, with the lowest authorizing association": the rows of
  -- alternative k, the lowest that allows the request
  pub record GrantRows (k : ℕ) : Type 0 where
    pub lowest : Lowest (Told (contained p)) p q k
    pub says : (row : Row) → In row (rows (contained p) p q) → GrantRowOf (contained p) p q k lowest.it row
    pub have : (row : Row) → GrantRowOf (contained p) p q k lowest.it row → In row (rows (contained p) p q)
    pub named : (row : Row) (g : GrantRowOf (contained p) p q k lowest.it row) → LowestNamed (contained p) p q g.it g.its_class row
    pub rise : rising row_place (rows (contained p) p q) ≡ true

  -- the row at i is that of alternative i + 1: its first failing argument and right, and why that right is not permitted
  pub record DenyRowAt (i : ℕ) (row : Row) : Type 0 where
    pub its : DenyRowOf (contained p) p q (i + 1) (get_or (alternatives_of q) i []) row
    pub why : Why (contained p) p q its.first.it row.cause row.number

  -- "Deny: one row for each alternative, with its first failing argument and right, a cause and a number"
  pub record DenyRows : Type 0 where
    pub count : length (rows (contained p) p q) ≡ length (alternatives_of q)
    pub each : (i : ℕ) → i < length (alternatives_of q) → (d : Row) → DenyRowAt i (get_or (rows (contained p) p q) i d)

-- the argument, the right, the cause and the number of the first row
abbrev pub first_why : (out : List (List ℕ)) → List ℕ
first_why out = get_or (get_or out 0 []) 1 0 ∷ get_or (get_or out 0 []) 2 0 ∷ get_or (get_or out 0 []) 3 0 ∷ get_or (get_or out 0 []) 4 0 ∷ []
