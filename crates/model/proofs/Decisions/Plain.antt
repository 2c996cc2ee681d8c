-- The plain decision in the words of 01: the rule over chains of assignments. What is proved of any containment that is computed holds of
-- `Within`, since the plain containment tells exactly that.
-- Assumes nothing.
use mathlib.Core.Path.{◌≡◌}
use mathlib.Core.Bool.{true}
use Prim.Native.Nat.{ℕ}
use Rattle.model.specs.Lists.{In}
use Rattle.model.specs.Policy.{Prohibition, Policy}
use Rattle.model.specs.Contain.{Within, contained}
use Rattle.model.specs.Rule.{held, restricted}
use Rattle.model.specs.Request.{Request, Alternative, Asked, alternatives_of, grant, deny, verdict}
use Rattle.model.specs.Decided.{Told, ClassOf, Given, HeldOver, Range, within_some, outside_some, within_outside_all, Subject, the_process, the_user, an_attribute, RestrictedOver, Permitted, Satisfied, Lowest}
use Rattle.model.proofs.Contained.{within_says, within_when}
use Rattle.model.proofs.Decisions.Agree.{held_says, held_when, restricted_says, restricted_when}
use Rattle.model.proofs.Decisions.Decision.{grant_says, grant_when, deny_says, deny_when}

-- Two containments that say the same: what is held, restricted or satisfied by the one is so by the other.
module _ {One Other : ℕ → ℕ → Type 0} (to : (x y : ℕ) → One x y → Other x y) (back : (x y : ℕ) → Other x y → One x y) (p : Policy) where
  class_as : {e c : ℕ} → ClassOf One p e c → ClassOf Other p e c
  class_as {e} {c} k = record { there = k.there; within = to e c k.within }

  given_as : {u r e c : ℕ} → Given One p u r e c → Given Other p u r e c
  given_as {u} {r} {e} {c} g = record {
    by = g.by;
    there = g.there;
    user = to u g.by.attribute g.user;
    right = g.right;
    element = to e g.by.target g.element;
    target = to g.by.target c g.target;
  }

  pub held_as : {u r e : ℕ} → HeldOver One p u r e → HeldOver Other p u r e
  held_as {u} {r} {e} h = record {
    some_class = h.some_class;
    its = class_as h.its;
    given = λ c k. given_as (h.given c (record { there = k.there; within = back e c k.within }));
  }

  range_as : {e : ℕ} {b : Prohibition} → Range One e b → Range Other e b
  range_as {e} (within_some {y = y} f i k) = within_some f i (to e y k)
  range_as {e} (outside_some {y = y} f i k) = outside_some f i (λ o. k (back e y o))
  range_as {e} (within_outside_all f i k) = within_outside_all f (λ y j. to e y (i y j)) (λ y j o. k y j (back e y o))

  subject_as : {process u : ℕ} {b : Prohibition} → Subject One process u b → Subject Other process u b
  subject_as (the_process s t) = the_process s t
  subject_as (the_user s t) = the_user s t
  subject_as {u = u} {b = b} (an_attribute s t) = an_attribute s (to u b.subject t)

  pub restricted_as : {process u r e : ℕ} → RestrictedOver One p process u r e → RestrictedOver Other p process u r e
  restricted_as h = record {
    by = h.by;
    there = h.there;
    restricts = record {
      right = h.restricts.right;
      no_class = h.restricts.no_class;
      range = range_as h.restricts.range;
      subject = subject_as h.restricts.subject;
    };
  }

module _ {One Other : ℕ → ℕ → Type 0} (to : (x y : ℕ) → One x y → Other x y) (back : (x y : ℕ) → Other x y → One x y) (p : Policy) (q : Request) where
  permitted_as : {a : Asked} → Permitted One p q a → Permitted Other p q a
  permitted_as h = record { held = held_as to back p h.held; free = λ r. h.free (restricted_as back to p r) }

  pub satisfied_as : (alternative : Alternative) → Satisfied One p q alternative → Satisfied Other p q alternative
  satisfied_as alternative s a i = permitted_as (s a i)

module _ {One Other : ℕ → ℕ → Type 0} (to : (x y : ℕ) → One x y → Other x y) (back : (x y : ℕ) → Other x y → One x y) (p : Policy) (q : Request) where
  pub lowest_as : {k : ℕ} → Lowest One p q k → Lowest Other p q k
  lowest_as h = record {
    front = h.front;
    it = h.it;
    behind = h.behind;
    parts = h.parts;
    place = h.place;
    satisfied = satisfied_as to back p q h.it h.satisfied;
    none = λ a i s. h.none a i (satisfied_as back to p q a s);
  }

module _ (p : Policy) where
  says : (x y : ℕ) → Told (contained p) x y → Within p.assignments x y
  says x y e = within_says p.assignments e

  tells : (x y : ℕ) → Within p.assignments x y → Told (contained p) x y
  tells x y w = within_when p.assignments w

  -- a user holds a right over an element exactly if 01's sentence says so, over chains of assignments
  pub plain_held_says : {u r e : ℕ} → held (contained p) p u r e ≡ true → HeldOver (Within p.assignments) p u r e
  plain_held_says {u} {r} {e} h = held_as says tells p (held_says (contained p) p u r e h)

  pub plain_held_when : {u r e : ℕ} → HeldOver (Within p.assignments) p u r e → held (contained p) p u r e ≡ true
  plain_held_when {u} {r} {e} h = held_when (contained p) p u r e (held_as tells says p h)

  -- a right is restricted exactly if 01's sentence says so
  pub plain_restricted_says : {process u r e : ℕ} → restricted (contained p) p process u r e ≡ true → RestrictedOver (Within p.assignments) p process u r e
  plain_restricted_says {process} {u} {r} {e} h = restricted_as says tells p (restricted_says (contained p) p process u r e h)

  pub plain_restricted_when : {process u r e : ℕ} → RestrictedOver (Within p.assignments) p process u r e → restricted (contained p) p process u r e ≡ true
  plain_restricted_when {process} {u} {r} {e} h = restricted_when (contained p) p process u r e (restricted_as tells says p h)

  -- a request is granted with alternative k exactly if k is the lowest alternative of which each right of each argument is held and not restricted
  pub plain_grant_says : (q : Request) {k : ℕ} → verdict (contained p) p q ≡ grant k → Lowest (Within p.assignments) p q k
  plain_grant_says q h = lowest_as says tells p q (grant_says (contained p) p q h)

  pub plain_grant_when : (q : Request) {k : ℕ} → Lowest (Within p.assignments) p q k → verdict (contained p) p q ≡ grant k
  plain_grant_when q h = grant_when (contained p) p q (lowest_as tells says p q h)

  -- and denied exactly if there is none
  pub plain_deny_says : (q : Request) → verdict (contained p) p q ≡ deny → (a : Alternative) → In a (alternatives_of q) → Satisfied (Within p.assignments) p q a → ⊥
  plain_deny_says q h a i s = deny_says (contained p) p q h a i (satisfied_as tells says p q a s)

  pub plain_deny_when : (q : Request) → ((a : Alternative) → In a (alternatives_of q) → Satisfied (Within p.assignments) p q a → ⊥) → verdict (contained p) p q ≡ deny
  plain_deny_when q n = deny_when (contained p) p q (λ a i s. n a i (satisfied_as says tells p q a s))
