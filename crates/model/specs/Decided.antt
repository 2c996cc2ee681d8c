-- 01, "Containment and the decision", as relations: what the rule says, over members of the policy's lists. `Inside x y` is "x is
-- within y": for the plain rule it is `Within`, for the rule over an index it is `Told W`, that the bit is set.
-- Assumes nothing.
use Rattle.std.specs.Prelude.{◌≡◌, Bool, true, List, ◌∷◌, ◌++◌, ℕ, ◌+◌, length}
use Rattle.model.specs.Lists.{In}
use Rattle.model.specs.Policy.{Association, Prohibition, Policy, class, by_user, by_process, by_attribute, disjunctive, has_right, kind_of, user_of}
use Rattle.model.specs.Rule.{classes}
use Rattle.model.specs.Request.{Request, Alternative, Asked, asked_of, alternatives_of}

module _ (Inside : ℕ → ℕ → Type 0) where
  -- "Disjunctive range: .. within some listed inclusion, or outside some listed exclusion. Conjunctive range: .. within every inclusion and
  -- outside every exclusion"
  pub data Range (e : ℕ) (b : Prohibition) : Type 0 where
    within_some : {y : ℕ} → b.form ≡ disjunctive → In y b.inclusion → Inside e y → Range e b
    outside_some : {y : ℕ} → b.form ≡ disjunctive → In y b.exclusion → (Inside e y → ⊥) → Range e b
    within_outside_all : (b.form ≡ disjunctive → ⊥) → ((y : ℕ) → In y b.inclusion → Inside e y)
        → ((y : ℕ) → In y b.exclusion → Inside e y → ⊥) → Range e b

  -- "its subject is p, or p's user, or an attribute that p's user is within"
  pub data Subject (process u : ℕ) (b : Prohibition) : Type 0 where
    the_process : b.sort ≡ by_process → b.subject ≡ process → Subject process u b
    the_user : b.sort ≡ by_user → b.subject ≡ u → Subject process u b
    an_attribute : b.sort ≡ by_attribute → Inside u b.subject → Subject process u b

-- a containment that is computed says that x is within y
abbrev pub Told : (ℕ → ℕ → Bool) → ℕ → ℕ → Type 0
Told W x y = W x y ≡ true

module _ (Inside : ℕ → ℕ → Type 0) (p : Policy) where
  -- "The *classes of* e are the classes that e is within."
  pub record ClassOf (e c : ℕ) : Type 0 where
    pub there : In c (classes p)
    pub within : Inside e c

  -- "some association has u within its user attribute, r in its set, e within its target, and its target within c"
  pub record Given (u r e c : ℕ) : Type 0 where
    pub by : Association
    pub there : In by p.associations
    pub user : Inside u by.attribute
    pub right : has_right by.rights r ≡ true
    pub element : Inside e by.target
    pub target : Inside by.target c

  -- "User u holds right r over e if e has at least one class, and for each class c of e some association .."
  pub record HeldOver (u r e : ℕ) : Type 0 where
    pub some_class : ℕ
    pub its : ClassOf e some_class
    pub given : (c : ℕ) → ClassOf e c → Given u r e c

  -- "A prohibition restricts (process p, r, e) if r is in its set, e is in its range, and its subject is .."; the ranges hold "non-class elements"
  pub record Restricts (process u r e : ℕ) (b : Prohibition) : Type 0 where
    pub right : has_right b.rights r ≡ true
    pub no_class : kind_of p e ≡ class → ⊥
    pub range : Range Inside e b
    pub subject : Subject Inside process u b

  -- some prohibition restricts
  pub record RestrictedOver (process u r e : ℕ) : Type 0 where
    pub by : Prohibition
    pub there : In by p.prohibitions
    pub restricts : Restricts process u r e by

  module _ (q : Request) where
    -- "the right held and not restricted"
    pub record Permitted (a : Asked) : Type 0 where
      pub held : HeldOver (user_of p q.process) a.right a.element
      pub free : RestrictedOver q.process (user_of p q.process) a.right a.element → ⊥

    -- "one alternative has, for each argument and each right in that argument's set, the right held and not restricted"
    abbrev pub Satisfied : Alternative → Type 0
    Satisfied alternative = (a : Asked) → In a (asked_of alternative q) → Permitted a

    -- k is the number of the first satisfied alternative of a list that is counted from j
    pub record LowestFrom (j : ℕ) (l : List Alternative) (k : ℕ) : Type 0 where
      pub front : List Alternative
      pub it : Alternative
      pub behind : List Alternative
      pub parts : l ≡ front ++ it ∷ behind
      pub place : k ≡ j + length front
      pub satisfied : Satisfied it
      pub none : (a : Alternative) → In a front → Satisfied a → ⊥

    -- "The answer names the lowest such alternative": the k-th, counted from 1
    abbrev pub Lowest : (k : ℕ) → Type 0
    Lowest k = LowestFrom 1 (alternatives_of q) k

    -- one of the rights that the alternative asks is asked over an element in no class
    pub record AsksUnclassed (alternative : Alternative) : Type 0 where
      pub it : Asked
      pub there : In it (asked_of alternative q)
      pub none : (c : ℕ) → ClassOf it.element c → ⊥
