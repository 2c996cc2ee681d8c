-- The rows of an explanation, whole: those of the verdict, how many, in which order, and the association that each row of a grant names.
-- Assumes nothing.
use mathlib.Core.Path.{◌≡◌, refl}
use mathlib.Core.Bool.{Bool, true}
use mathlib.Core.List.{[]}
use Prim.Native.Nat.{ℕ, pred, ◌≤◌}
use native.Mathlib.Omega.{arith}
use lib.ListN.{length, get_or}
use Rattle.model.specs.Lists.{In, first, rising}
use Rattle.model.specs.Policy.{Policy, element_key}
use Rattle.model.specs.Request.{Request, asked_of, alternatives_of, grant, deny, verdict}
use Rattle.model.specs.Explain.{Row, grant_rows, deny_rows, rows_of, rows}
use Rattle.model.proofs.Truth.{some_in, in_some, at_length, in_right}
use Rattle.model.specs.Decided.{Told, Lowest}
use Rattle.model.specs.RowRule.{row_place, GrantRowOf, LowestNamed}
use Rattle.model.proofs.Decisions.Agree.{class_when, held_when}
use Rattle.model.proofs.Decisions.Decision.{grant_says, grant_when}
use Rattle.model.proofs.Decisions.Table.{asks_some, two_alternatives}
use Rattle.model.proofs.Decisions.Granted.{grant_rows_say, grant_rows_have, grant_rows_rise, lowest_authorizes}
use Rattle.model.proofs.Decisions.Denied.{deny_rows_count}

module _ (W : ℕ → ℕ → Bool) (p : Policy) (q : Request) where
  -- the rows of a deny are one for each alternative
  pub denied_rows : verdict W p q ≡ deny → rows W p q ≡ deny_rows W p q 1 (alternatives_of q)
  unfolding rows rows_of
  denied_rows h = rw h

  -- a deny has at most two rows
  pub deny_rows_few : verdict W p q ≡ deny → length (rows W p q) ≤ 2
  deny_rows_few h = rw (denied_rows h, deny_rows_count W p q h) (two_alternatives q)

  module _ {k : ℕ} (g : Lowest (Told W) p q k) where
    granted_in : In g.it (alternatives_of q)
    granted_in = rw g.parts (in_right g.front first)

    granted_at : get_or (alternatives_of q) (pred k) [] ≡ g.it
    granted_at = let e : pred k ≡ length g.front = omega (arith, g.place) in rw (e, g.parts) (at_length g.front g.it g.behind [])

    -- the rows of a grant are those of the alternative that is granted
    pub granted_rows : rows W p q ≡ grant_rows W p q k g.it
    unfolding rows rows_of
    granted_rows = rw (grant_when W p q g, granted_at)

    granted_some : 1 ≤ length (rows W p q)
    granted_some =
        let a = some_in (asked_of g.it q) (asks_some q granted_in) in
        let c = (g.satisfied a.0 a.1).held in
        rw granted_rows
        (in_some (grant_rows_have W p q k (record { it = a.0; asks = a.1; its_class = c.some_class; its = class_when W p c.its; is = refl })))

    -- they strictly rise by argument, right and class
    pub granted_rise : rising element_key p.elements ≡ true → rising row_place (rows W p q) ≡ true
    granted_rise h = rw granted_rows (grant_rows_rise W p q k h granted_in)

    -- each is the row of a right asked and a class of its element
    pub granted_says : {row : Row} → In row (rows W p q) → GrantRowOf W p q k g.it row
    granted_says i = grant_rows_say W p q k g.it (rw granted_rows at i)

    -- and each right asked and class of its element has its row
    pub granted_have : {row : Row} → GrantRowOf W p q k g.it row → In row (rows W p q)
    granted_have r = rw granted_rows (grant_rows_have W p q k r)

    -- and each names the lowest association that authorizes
    pub granted_named : {row : Row} (r : GrantRowOf W p q k g.it row) → LowestNamed W p q r.it r.its_class row
    granted_named r = rw r.is (lowest_authorizes W p q k r.it r.its_class (held_when W p _ _ _ (g.satisfied r.it r.asks).held) r.its)

  -- a grant has at least one row
  pub grant_rows_some : {k : ℕ} → verdict W p q ≡ grant k → 1 ≤ length (rows W p q)
  grant_rows_some h = granted_some (grant_says W p q h)
