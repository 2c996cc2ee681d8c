-- The rows of a grant: exactly those, strictly rising, with the lowest association that authorizes.
-- Assumes nothing.
use mathlib.Core.Path.{◌≡◌, refl, sym, ap}
use mathlib.Core.Bool.{Bool, true, false}
use mathlib.Core.List.{List, [], ◌∷◌, ◌++◌, map}
use Prim.Native.Nat.{ℕ}
use Rattle.model.specs.Lists.{In, one, before, rising, rising_ids, those}
use Rattle.model.specs.Policy.{Association, Policy, element_key, association_fields, user_of}
use Rattle.model.specs.Rule.{classes, classes_of, gives, given_in, held}
use Rattle.model.specs.Request.{Request, Alternative, Asked, asked_of, alternatives_of}
use Rattle.model.specs.Explain.{Row, lowest_association, authorizing, grant_row, grant_rows}
use Rattle.model.proofs.Truth.{none_in, any_found, those_in, those_pass, in_those, in_map, map_in}
use Rattle.model.specs.RowRule.{row_place, GrantRowOf, LowestNamed}
use Rattle.model.proofs.Decisions.Agree.{class_says, held_says, given_when}
use Rattle.model.proofs.Order.{rest_lower, before_append}
use Rattle.model.proofs.Groups.{rising_those}
use Rattle.model.proofs.Decisions.Lowest.{rising_map, joined_in, in_joined, rising_joined, lowest_in_lem, lowest_least}
use Rattle.model.proofs.Decisions.Table.{asked_place, asked_rise}

-- the classes of a policy whose elements rise strictly rise
pub classes_rise : (p : Policy) → rising element_key p.elements ≡ true → rising_ids (classes p) ≡ true
unfolding classes rising_ids
classes_rise p h = rising_map element_key (λ c. one c) (λ e. e.id) (λ a b k. k) _ (rising_those element_key _ p.elements h)

module _ (W : ℕ → ℕ → Bool) (p : Policy) (q : Request) (k : ℕ) where
  -- the rows of one right
  abbrev rows_at : Asked → List Row
  rows_at a = map (grant_row W p q k a) (classes_of (W a.element) p)

  -- each row is that of a right asked and a class of its element
  pub grant_rows_say : (alternative : Alternative) {row : Row} → In row (grant_rows W p q k alternative) → GrantRowOf W p q k alternative row
  unfolding grant_rows
  grant_rows_say alternative i =
      let j = joined_in rows_at (asked_of alternative q) i in
      let m = map_in (grant_row W p q k j.from) (classes_of (W j.from.element) p) j.is in
      record { it = j.from; asks = j.there; its_class = m.from; its = m.there; is = sym m.is }

  -- and each right asked and class of its element has its row
  pub grant_rows_have : {alternative : Alternative} {row : Row} → GrantRowOf W p q k alternative row → In row (grant_rows W p q k alternative)
  unfolding grant_rows
  grant_rows_have g =
      rw g.is (in_joined rows_at g.asks (in_map (grant_row W p q k g.it) g.its))

  row_place_lem : (a : Asked) {r : Row} → In r (rows_at a) → (c : ℕ) × (asked_place a ++ one c ≡ row_place r)
  unfolding grant_row
  row_place_lem a i = let m = map_in (grant_row W p q k a) (classes_of (W a.element) p) i in (m.from, ap row_place m.is)

  rows_rise : rising element_key p.elements ≡ true → (a : Asked) → rising row_place (rows_at a) ≡ true
  unfolding grant_row classes_of rising_ids
  rows_rise h a =
      rising_map (λ c. one c) row_place (grant_row W p q k a)
      (λ c d b. rest_lower _ _ _ _ refl (rest_lower _ _ _ _ refl b)) _
      (rising_those (λ c. one c) (W a.element) (classes p) (classes_rise p h))

  -- "all rising": by argument, right and class
  pub grant_rows_rise : rising element_key p.elements ≡ true → {alternative : Alternative} → In alternative (alternatives_of q)
      → rising row_place (grant_rows W p q k alternative) ≡ true
  unfolding grant_rows
  grant_rows_rise h {alternative} i =
      rising_joined rows_at asked_place row_place (rows_rise h) later_rows (asked_of alternative q) (asked_rise q i)
    where
      later_rows : (a b : Asked) → before (asked_place a) (asked_place b) ≡ true → (x y : Row) → In x (rows_at a) → In y (rows_at b)
          → before (row_place x) (row_place y) ≡ true
      later_rows a b e x y i j =
          let m = row_place_lem a i in
          let n = row_place_lem b j in
          rw (← m.1, ← n.1) (before_append (asked_place a) (asked_place b) (one m.0) (one n.0) refl e)

-- the lowest of some associations is one of them, and none of them is before it
lowest_association_lem : (l : List Association) {b : Association} → In b l
    → In (lowest_association l) l × ((c : Association) → In c l → before (association_fields c) (association_fields (lowest_association l)) ≡ false)
lowest_association_lem [] i = absurd (none_in i)
lowest_association_lem (a ∷ l) i = (lowest_in_lem association_fields a l, lowest_least association_fields a l)

-- "with the lowest authorizing association": the row of a right held and a class of its element names it
pub lowest_authorizes : (W : ℕ → ℕ → Bool) (p : Policy) (q : Request) (k : ℕ) (a : Asked) (c : ℕ)
    → held W p (user_of p q.process) a.right a.element ≡ true → In c (classes_of (W a.element) p)
    → LowestNamed W p q a c (grant_row W p q k a c)
unfolding grant_row authorizing given_in
lowest_authorizes W p q k a c h i =
    let u : ℕ = user_of p q.process in
    let g = gives (W u) (W a.element) W a.right c in
    let some = any_found g p.associations (given_when W p u a.right a.element ((held_says W p u a.right a.element h).given c (class_says W p a.element c i))) in
    let low = lowest_association_lem (those g p.associations) (in_those g some.there some.is) in
    record {
      best = lowest_association (authorizing W p q a c);
      there = those_in g p.associations low.0;
      authorizes = those_pass g p.associations low.0;
      lowest = λ b j e. low.1 b (in_those g j e);
      attribute = refl;
      target = refl;
      rights = refl;
    }
