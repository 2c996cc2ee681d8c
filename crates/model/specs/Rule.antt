-- 01, "Containment and the decision": classes, held, ranges, restricted. Containment is an argument, so that the plain rule and the indexed
-- rule ("those bits read as containment") are one definition: W x y says that x is within y. What the rule asks of it is a row of the
-- user, U y = W u y, a row of the element, E y = W e y, and T = W between a target and a class. The definitions under a `module _ (..)` line take
-- what stands in its brackets first. Where 01's sentence says p for the process, this file says `process`; p is the policy.
-- Assumes nothing.
use Rattle.std.specs.Prelude.{Bool, not, cond, ◌&&◌, ◌||◌, List, map, ℕ, eqb}
use Rattle.model.specs.Lists.{any_of, all_of, those, empty}
use Rattle.model.specs.Policy.{Association, Prohibition, Policy, class, by_user, by_process, by_attribute, disjunctive, has_right, kind_of}

-- the policy classes, in the order of the elements
unfoldable pub classes : Policy → List ℕ
classes p = map (λ e. e.id) (those (λ e. eqb e.kind class) p.elements)

-- "The *classes of* e are the classes that e is within."
unfoldable pub classes_of : (E : ℕ → Bool) → Policy → List ℕ
classes_of E p = those E (classes p)

module _ (U E : ℕ → Bool) (T : ℕ → ℕ → Bool) where
  -- "some association has u within its user attribute, r in its set, e within its target, and its target within c"
  unfoldable pub gives : (r c : ℕ) → Association → Bool
  gives r c a = U a.attribute && has_right a.rights r && E a.target && T a.target c

  -- some association gives the right in the class
  unfoldable pub given_in : Policy → (r c : ℕ) → Bool
  given_in p r c = any_of (gives r c) p.associations

  -- "User u holds right r over e if e has at least one class, and for each class c of e some association .."
  unfoldable pub held_by : Policy → (r : ℕ) → Bool
  held_by p r = not (empty (classes_of E p)) && all_of (given_in p r) (classes_of E p)

-- user u holds right r over e, by the containment W
abbrev pub held : (W : ℕ → ℕ → Bool) → Policy → (u r e : ℕ) → Bool
held W p u r e = held_by (W u) (W e) W p r

module _ (E : ℕ → Bool) where
  -- "within some listed inclusion, or outside some listed exclusion"
  unfoldable pub disjunctive_range : Prohibition → Bool
  disjunctive_range b = any_of E b.inclusion || any_of (λ y. not (E y)) b.exclusion

  -- "within every inclusion and outside every exclusion; an empty list limits nothing"
  unfoldable pub conjunctive_range : Prohibition → Bool
  conjunctive_range b = all_of E b.inclusion && all_of (λ y. not (E y)) b.exclusion

  -- "non-class elements" in the range of the prohibition's form
  unfoldable pub in_range : Policy → (e : ℕ) → Prohibition → Bool
  in_range p e b = not (eqb (kind_of p e) class) && cond (eqb b.form disjunctive) (disjunctive_range b) (conjunctive_range b)

-- "its subject is p, or p's user, or an attribute that p's user is within"
unfoldable pub is_subject : (U : ℕ → Bool) → (process u : ℕ) → Prohibition → Bool
is_subject U process u b =
    eqb b.sort by_process && eqb b.subject process
    || eqb b.sort by_user && eqb b.subject u
    || eqb b.sort by_attribute && U b.subject

module _ (U E : ℕ → Bool) (p : Policy) (process u r e : ℕ) where
  -- "A prohibition restricts (process p, r, e) if r is in its set, e is in its range, and its subject is .."
  unfoldable pub restricts : Prohibition → Bool
  restricts b = has_right b.rights r && in_range E p e b && is_subject U process u b

  -- some prohibition restricts
  unfoldable pub restricted_by : Bool
  restricted_by = any_of restricts p.prohibitions

  -- the subjects of one sort through which it is restricted
  unfoldable pub through : (sort : ℕ) → List ℕ
  through s = map (λ b. b.subject) (those (λ b. eqb b.sort s && restricts b) p.prohibitions)

-- (process, r, e) is restricted, by the containment W
abbrev pub restricted : (W : ℕ → ℕ → Bool) → Policy → (process u r e : ℕ) → Bool
restricted W p process u r e = restricted_by (W u) (W e) p process u r e
