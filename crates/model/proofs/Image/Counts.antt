-- What the tests of limits, fields and order say of each group, and how many records a sound policy has in each: as many as the counts of the image hold.
-- Assumes nothing.
use mathlib.Core.Path.{◌≡◌, refl}
use mathlib.Core.Bool.{Bool, true, false, ◌&&◌}
use mathlib.Core.List.{List, [], ◌∷◌}
use mathlib.Core.Logic.{⊎_elim}
use Prim.Native.Nat.{ℕ, ◌+◌, ◌≤◌, ◌<◌}
use native.Mathlib.Omega.{arith}
use borrow.Author.Tests.{leb-true, ltb-true}
use lib.Dec.{eqb, leb, ltb}
use lib.ListN.{length}
use Rattle.model.specs.Lists.{all_of, before, precedes, rising}
use Rattle.model.specs.Policy.{Element, Process, Policy, is_element_id, is_process_id, is_kind, element_key, assignment_fields, association_fields, prohibition_fields, process_key}
use Rattle.model.specs.Sound.{Sound, within_limits, fields_fit, groups_rise, element_fits, assignment_fits, association_fits, prohibition_fits, process_fits, most_assignments, most_associations, most_prohibitions}
use Rattle.model.proofs.Truth.{clash, and_cut, and_left, and_right, or_cut}
use Rattle.model.proofs.Image.Ranges.{id_range, process_range}
use Rattle.model.proofs.Image.Truths.{truths}

before_one : (x y : ℕ) → before (x ∷ []) (y ∷ []) ≡ true → x < y
unfolding before
before_one x y h =
    ⊎_elim (λ e. ltb-true x y e) (λ e. absurd (clash (and_right (eqb x y) false e) refl)) (or_cut (ltb x y) (eqb x y && false) h)

-- ids from 1 to `hi` that strictly rise are at most `hi`
module _ {A : Type 0} (id : A → ℕ) (right : A → Bool) (hi : ℕ) (range : (a : A) → right a ≡ true → (1 ≤ id a) × (id a ≤ hi)) where
  room : (a : A) (l : List A) → rising (λ x. id x ∷ []) (a ∷ l) ≡ true → all_of right (a ∷ l) ≡ true → id a + length l ≤ hi
  unfolding rising precedes all_of
  room a [] r h = let c = range a (and_left (right a) true h) in omega arith
  room a (b ∷ l) r h =
      let c = and_cut (before (id a ∷ []) (id b ∷ [])) (rising (λ x. id x ∷ []) (b ∷ l)) r in
      let k = before_one (id a) (id b) c.0 in
      let m = room b l c.1 (and_right (right a) (all_of right (b ∷ l)) h) in
      omega arith

  few : (l : List A) → rising (λ x. id x ∷ []) l ≡ true → all_of right l ≡ true → length l ≤ hi
  unfolding all_of
  few [] r h = omega arith
  few (a ∷ l) r h =
      let m = room a l r h in
      let c = range a (and_left (right a) (all_of right l) h) in
      omega arith

element_range : (e : Element) → element_fits e ≡ true → (1 ≤ e.id) × (e.id ≤ 511)
unfolding element_fits
element_range e h = id_range e.id (and_left (is_element_id e.id) (is_kind e.kind) h)

process_id_range : (q : Process) → process_fits q ≡ true → (1 ≤ q.id) × (q.id ≤ 255)
unfolding process_fits
process_id_range q h = process_range q.id (and_left (is_process_id q.id) (is_element_id q.owner) h)

-- each record of each group is right
pub record Right (p : Policy) : Type 0 where
  pub elements : all_of element_fits p.elements ≡ true
  pub assignments : all_of assignment_fits p.assignments ≡ true
  pub associations : all_of association_fits p.associations ≡ true
  pub prohibitions : all_of prohibition_fits p.prohibitions ≡ true
  pub processes : all_of process_fits p.processes ≡ true

-- the test of all the fields, group by group
pub each_right : (p : Policy) → fields_fit p ≡ true → Right p
unfolding fields_fit
each_right p h =
    let c = truths (all_of element_fits p.elements)
    (all_of assignment_fits p.assignments ∷ all_of association_fits p.associations
    ∷ all_of prohibition_fits p.prohibitions ∷ all_of process_fits p.processes ∷ []) h in
    record { elements = c.0; assignments = c.1.0; associations = c.1.1.0; prohibitions = c.1.1.1.0; processes = c.1.1.1.1.0 }

-- each group strictly rises
pub record Rises (p : Policy) : Type 0 where
  pub elements : rising element_key p.elements ≡ true
  pub assignments : rising assignment_fields p.assignments ≡ true
  pub associations : rising association_fields p.associations ≡ true
  pub prohibitions : rising prohibition_fields p.prohibitions ≡ true
  pub processes : rising process_key p.processes ≡ true

-- the test of the order, group by group
pub each_rises : (p : Policy) → groups_rise p ≡ true → Rises p
unfolding groups_rise
each_rises p h =
    let c = truths (rising element_key p.elements)
    (rising assignment_fields p.assignments ∷ rising association_fields p.associations
    ∷ rising prohibition_fields p.prohibitions ∷ rising process_key p.processes ∷ []) h in
    record { elements = c.0; assignments = c.1.0; associations = c.1.1.0; prohibitions = c.1.1.1.0; processes = c.1.1.1.1.0 }

-- "Assignments, at most 2,000"; "Associations, at most 1,000"; "Prohibitions, at most 200"
pub record Limits (p : Policy) : Type 0 where
  pub assignments : length p.assignments ≤ 2000
  pub associations : length p.associations ≤ 1000
  pub prohibitions : length p.prohibitions ≤ 200

-- no group is past its limit
pub limits : (p : Policy) → within_limits p ≡ true → Limits p
unfolding within_limits
limits p h =
    let c = truths (leb (length p.assignments) most_assignments)
    (leb (length p.associations) most_associations ∷ leb (length p.prohibitions) most_prohibitions ∷ []) h in
    record {
      assignments = leb-true (length p.assignments) most_assignments c.0;
      associations = leb-true (length p.associations) most_associations c.1.0;
      prohibitions = leb-true (length p.prohibitions) most_prohibitions c.1.1.0;
    }

-- "ids 1 to 511"; "at most 2,000"; "at most 1,000"; "at most 200"; "ids 1 to 255"
pub record Counts (p : Policy) : Type 0 where
  pub elements : length p.elements ≤ 511
  pub assignments : length p.assignments ≤ 2000
  pub associations : length p.associations ≤ 1000
  pub prohibitions : length p.prohibitions ≤ 200
  pub processes : length p.processes ≤ 255

-- what a sound policy counts at most
pub counts : (p : Policy) → Sound p → Counts p
counts p s =
    let c = each_right p s.fields in
    let k = limits p s.limits in
    let r = each_rises p s.order in
    record {
      elements = few (λ e. e.id) element_fits 511 element_range p.elements r.elements c.elements;
      assignments = k.assignments;
      associations = k.associations;
      prohibitions = k.prohibitions;
      processes = few (λ q. q.id) process_fits 255 process_id_range p.processes r.processes c.processes;
    }
