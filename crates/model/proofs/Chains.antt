-- Chains of assignments: what one assignment more or less does to them, that none returns to its start, and where they end.
-- Assumes nothing.
use mathlib.Core.Path.{◌≡◌, refl, sym, ap, subst₂}
use mathlib.Core.Bool.{Bool, true, false, not, cond, ◌&&◌, ◌||◌}
use mathlib.Core.List.{List, [], ◌∷◌}
use mathlib.Core.Logic.{◌⊎◌, inl, inr}
use Prim.Native.Nat.{ℕ, zero, suc, ◌≤◌, ◌<◌}
use native.Mathlib.Omega.{arith}
use borrow.Author.Tests.{not-true, eqb-true}
use lib.Dec.{eqb}
use lib.ListN.{length}
use Rattle.model.specs.History.{Reaches}
use Rattle.model.specs.Lists.{In, first, later, any_of, all_of, those}
use Rattle.model.specs.Policy.{Element, Assignment, Policy, user, user_attribute, object, object_attribute, class, allowed, kind_in, kind_of}
use Rattle.model.specs.Contain.{Assigned, Within, itself, above, Chain, link, contained}
use Rattle.model.specs.Rule.{classes}
use Rattle.model.specs.Sound.{Sound, assignment_pairs, pairs_fit, no_cycle, assigned_or_class, all_assigned}
use Rattle.model.proofs.Truth.{clash, and_left, or_cut, Tested, passes, fails, tested, any_found, all_in, all_of_lem, in_those, in_map}
use Rattle.model.proofs.Contained.{within_trans, within_says, within_when}

-- no chain of assignments returns to its start
abbrev pub Acyclic : List Assignment → Type 0
Acyclic l = (x : ℕ) → Chain l x x → ⊥

-- the members of m are members of l
abbrev pub Among : List Assignment → List Assignment → Type 0
Among m l = (a : Assignment) → In a m → In a l

-- the members of m are members of l, or n
abbrev pub AmongOr : List Assignment → Assignment → List Assignment → Type 0
AmongOr m n l = (a : Assignment) → In a m → (a ≡ n) ⊎ In a l

module _ {l m : List Assignment} where
  -- fewer assignments join fewer pairs
  pub fewer_within : Among m l → {x y : ℕ} → Within m x y → Within l x y
  fewer_within sub itself = itself
  fewer_within sub (above a w) = above (sub _ a) (fewer_within sub w)

  pub fewer_acyclic : Among m l → Acyclic l → Acyclic m
  fewer_acyclic sub none x (link a w) = none x (link (sub _ a) (fewer_within sub w))

-- x is within z by l alone, or by the assignment n once
pub data Joined (l : List Assignment) (n : Assignment) (x z : ℕ) : Type 0 where
  old : Within l x z → Joined l n x z
  new : Within l x n.child → Within l n.container z → Joined l n x z

module _ {l m : List Assignment} (n : Assignment) (sub : AmongOr m n l) where
  -- one assignment more joins just the pairs that it links
  pub more_within : {x z : ℕ} → Within m x z → Joined l n x z
  more_within itself = old itself
  more_within (above {x = x} {y = y} {z = z} a w) = go (sub (record { child = x; container = y }) a) (more_within w)
    where
      go : (record { child = x; container = y } ≡ n) ⊎ Assigned l x y → Joined l n y z → Joined l n x z
      go (inl e) (old v) =
          let p : x ≡ n.child = ap (λ b. b.child) e in
          let q : y ≡ n.container = ap (λ b. b.container) e in
          new (rw p itself) (rw q at v)
      go (inl e) (new v u) = let p : x ≡ n.child = ap (λ b. b.child) e in new (rw p itself) u
      go (inr a) (old v) = old (above a v)
      go (inr a) (new v u) = new (above a v) u

  -- it closes no cycle where its container is not within its child
  pub more_acyclic : Acyclic l → (Within l n.container n.child → ⊥) → Acyclic m
  more_acyclic none far x (link {y = y} a w) = go (sub (record { child = x; container = y }) a) (more_within w)
    where
      go : (record { child = x; container = y } ≡ n) ⊎ Assigned l x y → Joined l n y x → ⊥
      go (inl e) (old v) =
          let p : x ≡ n.child = ap (λ b. b.child) e in
          let q : y ≡ n.container = ap (λ b. b.container) e in
          far (rw (p, q) at v)
      go (inl e) (new v u) = let q : y ≡ n.container = ap (λ b. b.container) e in far (rw q at v)
      go (inr a) (old v) = none x (link a v)
      go (inr a) (new v u) = far (within_trans u (above a v))

-- the other way: what l or the new assignment joins is joined
pub within_more : {l m : List Assignment} (n : Assignment) → Among l m → In n m → {x z : ℕ} → Joined l n x z → Within m x z
within_more n sub i (old v) = fewer_within sub v
within_more n sub i (new v u) = within_trans (fewer_within sub v) (above i (fewer_within sub u))

-- where nothing is assigned to x, taking its own assignments away leaves what the others are within
pub others_within : {l m : List Assignment} (x : ℕ) → ((a : Assignment) → In a l → a.container ≡ x → ⊥)
    → ((a : Assignment) → In a l → (a.child ≡ x → ⊥) → In a m) → {y z : ℕ} → (y ≡ x → ⊥) → Within l y z → Within m y z
others_within x free keep d itself = itself
others_within x free keep d (above {x = y} {y = z} a w) =
    above (keep (record { child = y; container = z }) a d) (others_within x free keep (free (record { child = y; container = z }) a) w)

module _ (p : Policy) where
  -- the test for cycles says that there is none
  pub acyclic_says : no_cycle p ≡ true → Acyclic p.assignments
  unfolding no_cycle
  acyclic_says e x (link {y = y} a w) =
      clash (within_when p.assignments w)
      (not-true (contained p y x) (all_in (λ b. not (contained p b.container b.child)) e a))

  pub acyclic_when : Acyclic p.assignments → no_cycle p ≡ true
  unfolding no_cycle
  acyclic_when none = all_of_lem (λ b. not (contained p b.container b.child)) p.assignments (λ b i. go b i (tested (contained p b.container b.child)))
    where
      go : (b : Assignment) → In b p.assignments → Tested (contained p b.container b.child) → not (contained p b.container b.child) ≡ true
      go b i (passes e) = absurd (none b.child (link i (within_says p.assignments e)))
      go b i (fails e) = rw e

-- Where chains end. An element's kind is found with it:
pub record Known (l : List Element) (x : ℕ) : Type 0 where
  pub it : Element
  pub there : In it l
  pub is : it.id ≡ x
  pub its_kind : it.kind ≡ kind_in l x

pub known : (l : List Element) (x : ℕ) → (kind_in l x ≡ 0 → ⊥) → Known l x
unfolding kind_in
known [] x d = absurd (d refl)
known (e ∷ l) x d = go (eqb e.id x) refl d (known l x)
  where
    go : (t : Bool) → eqb e.id x ≡ t → (cond t e.kind (kind_in l x) ≡ 0 → ⊥) → ((kind_in l x ≡ 0 → ⊥) → Known l x) → Known (e ∷ l) x
    go true q d k = record { it = e; there = first; is = eqb-true e.id x q; its_kind = rw q }
    go false q d k =
        let n = k d in
        record { it = n.it; there = later n.there; is = n.is; its_kind = rw q n.its_kind }

-- nothing may be assigned to what is not there
pub allowed_there : (j k : ℕ) → allowed j k ≡ true → k ≡ 0 → ⊥
unfolding allowed
allowed_there j k e z = go (eqb j user) (eqb j user_attribute) (eqb j object || eqb j object_attribute) (rw z at e)
  where
    go : (a b c : Bool) → (a && false || b && (false || false) || c && (false || false)) ≡ true → ⊥
    go true true true e = clash e refl
    go true true false e = clash e refl
    go true false true e = clash e refl
    go true false false e = clash e refl
    go false true true e = clash e refl
    go false true false e = clash e refl
    go false false true e = clash e refl
    go false false false e = clash e refl

-- how many pass: fewer, where one passes the wider test alone
module _ {A : Type 0} (f g : A → Bool) (wider : (a : A) → f a ≡ true → g a ≡ true) where
  pub those_fewer : (l : List A) → length (those f l) ≤ length (those g l)
  unfolding those
  those_fewer [] = omega arith
  those_fewer (b ∷ l) = go (f b) refl (g b) refl (those_fewer l)
    where
      go : (s : Bool) → f b ≡ s → (t : Bool) → g b ≡ t → length (those f l) ≤ length (those g l)
          → length (cond s (b ∷ those f l) (those f l)) ≤ length (cond t (b ∷ those g l) (those g l))
      go true p true q h = omega arith
      go true p false q h = absurd (clash (wider b p) q)
      go false p true q h = omega arith
      go false p false q h = h

  pub those_less : {a : A} {l : List A} → In a l → f a ≡ false → g a ≡ true → length (those f l) < length (those g l)
  unfolding those
  those_less {l = b ∷ l} first p q = rw (p, q) (let h = those_fewer l in omega arith)
  those_less {l = b ∷ l} (later i) p q = go (f b) refl (g b) refl (those_less i p q)
    where
      go : (s : Bool) → f b ≡ s → (t : Bool) → g b ≡ t → length (those f l) < length (those g l)
          → length (cond s (b ∷ those f l) (those f l)) < length (cond t (b ∷ those g l) (those g l))
      go true p true q h = omega arith
      go true p false q h = absurd (clash (wider b p) q)
      go false p true q h = omega arith
      go false p false q h = h
  those_less {a = a} {l = []} never p q = elim never [ ]

module _ (p : Policy) (s : Sound p) where
  -- how many elements x is within: it falls with each assignment taken
  abbrev height : ℕ → ℕ
  height x = length (those (λ e. contained p x e.id) p.elements)

  height_falls : {e : Element} → In e p.elements → {y : ℕ} → Assigned p.assignments e.id y → height y < height e.id
  unfolding no_cycle
  height_falls {e} i {y} a =
      those_less (λ f. contained p y f.id) (λ f. contained p e.id f.id) (λ f w. within_when p.assignments (above a (within_says p.assignments w)))
      i (not-true (contained p y e.id) (all_in (λ b. not (contained p b.container b.child)) s.acyclic a)) (within_when p.assignments itself)

  -- a non-class is assigned to an element that is there
  record Onward (e : Element) : Type 0 where
    next : Element
    there : In next p.elements
    assigned : Assigned p.assignments e.id next.id

  onward : (e : Element) → In e p.elements → eqb e.kind class ≡ false → Onward e
  unfolding all_assigned assigned_or_class pairs_fit assignment_pairs kind_of
  onward e i d = go (or_cut (eqb e.kind class) (any_of (λ a. eqb a.child e.id) p.assignments) (all_in (assigned_or_class p) s.assigned i))
    where
      pairs : all_of (assignment_pairs p) p.assignments ≡ true
      pairs = and_left _ _ (and_left _ _ (and_left _ _ s.names))

      go : (eqb e.kind class ≡ true) ⊎ (any_of (λ a. eqb a.child e.id) p.assignments ≡ true) → Onward e
      go (inl q) = absurd (clash q d)
      go (inr q) =
          let f = any_found (λ a. eqb a.child e.id) p.assignments q in
          let c : f.it.child ≡ e.id = eqb-true f.it.child e.id f.is in
          let k = known p.elements f.it.container (allowed_there (kind_of p f.it.child) (kind_of p f.it.container) (all_in (assignment_pairs p) pairs f.there)) in
          record { next = k.it; there = k.there; assigned = subst₂ (λ x y. Assigned p.assignments x y) c (sym k.is) f.there }

  climbs_to_class : (n : ℕ) (e : Element) → In e p.elements → height e.id < n → Reaches p e.id
  unfolding classes
  climbs_to_class zero e i h = absurd (omega arith)
  climbs_to_class (suc n) e i h = go (tested (eqb e.kind class)) (λ o. climbs_to_class n o.next o.there)
    where
      go : Tested (eqb e.kind class) → ((o : Onward e) → height o.next.id < n → Reaches p o.next.id) → Reaches p e.id
      go (passes q) k = record { its_class = e.id; is_class_lem = in_map (λ f. f.id) (in_those (λ f. eqb f.kind class) i q); within_it = itself }
      go (fails q) k =
          let o = onward e i q in
          let r = k o (let f = height_falls i o.assigned in omega arith) in
          record { its_class = r.its_class; is_class_lem = r.is_class_lem; within_it = above o.assigned r.within_it }

  -- every element is or reaches a policy class
  pub reaches_class : (e : Element) → In e p.elements → Reaches p e.id
  reaches_class e i = climbs_to_class (suc (height e.id)) e i (omega arith)
