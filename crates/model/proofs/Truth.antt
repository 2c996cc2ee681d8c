-- Laws of the tests on lists: what holds of some, of each, of those that pass.
-- Assumes nothing.
use mathlib.Core.Path.{◌≡◌, refl, sym, ap₂}
use mathlib.Core.Bool.{Bool, true, false, not, cond, ◌&&◌, ◌||◌, or-true, or_assoc, and_assoc}
use mathlib.Core.List.{List, [], ◌∷◌, ◌++◌, map}
use mathlib.Core.Logic.{◌⊎◌, inl, inr}
use Prim.Native.Nat.{ℕ, ◌≤◌}
use native.Mathlib.Omega.{arith}
use borrow.Author.Tests.{eqb-true, eq-eqb}
use lib.Dec.{eqb}
use lib.ListN.{length, get_or}
use Rattle.model.specs.Lists.{In, first, later, any_of, all_of, those, less_first, empty, member}

pub clash : {b : Bool} → b ≡ true → b ≡ false → ⊥
clash e f = let z : ◌≡◌ {A = ℕ} 0 1 = cc in omega arith

-- both
pub and_cut : (a b : Bool) → (a && b) ≡ true → (a ≡ true) × (b ≡ true)
and_cut true b e = (refl, e)
and_cut false b e = absurd (clash e refl)

pub and_left : (a b : Bool) → (a && b) ≡ true → a ≡ true
and_left a b e = (and_cut a b e).0

pub and_right : (a b : Bool) → (a && b) ≡ true → b ≡ true
and_right a b e = (and_cut a b e).1

pub and_join : (a b : Bool) → a ≡ true → b ≡ true → (a && b) ≡ true
and_join a b p q = rw (p, q)

-- either
pub or_cut : (a b : Bool) → (a || b) ≡ true → (a ≡ true) ⊎ (b ≡ true)
or_cut true b e = inl refl
or_cut false b e = inr e

pub or_fails : (a b : Bool) → (a || b) ≡ false → (a ≡ false) × (b ≡ false)
or_fails true b e = absurd (clash refl e)
or_fails false b e = (refl, e)

pub or_left : (a b : Bool) → a ≡ true → (a || b) ≡ true
or_left a b e = rw e

pub or_right : (a b : Bool) → b ≡ true → (a || b) ≡ true
or_right a b e = rw e (or-true a)

pub same_truth : (a b : Bool) → (a ≡ true → b ≡ true) → (b ≡ true → a ≡ true) → a ≡ b
same_truth true b f g = sym (f refl)
same_truth false true f g = g refl
same_truth false false f g = refl

-- what is false is not true
pub false_not : (b : Bool) → b ≡ false → b ≡ true → ⊥
false_not b e t = clash t e

-- what does not hold fails
pub fails_when : (b : Bool) → (b ≡ true → ⊥) → b ≡ false
fails_when true h = absurd (h refl)
fails_when false h = refl

-- what fails is so when negated
pub not_so : (b : Bool) → b ≡ false → not b ≡ true
not_so b e = rw e

-- a test is true or false
pub data Tested (b : Bool) : Type 0 where
  passes : b ≡ true → Tested b
  fails : b ≡ false → Tested b

pub tested : (b : Bool) → Tested b
tested true = passes refl
tested false = fails refl

-- some
pub record Found {A : Type 0} (f : A → Bool) (l : List A) : Type 0 where
  pub it : A
  pub there : In it l
  pub is : f it ≡ true

module _ {A : Type 0} (f : A → Bool) where
  pub any_in : {a : A} {l : List A} → In a l → f a ≡ true → any_of f l ≡ true
  unfolding any_of
  any_in first e = rw e
  any_in (later {b = b} i) e = rw (any_in i e) (or-true (f b))

  pub any_found : (l : List A) → any_of f l ≡ true → Found f l
  unfolding any_of
  any_found [] e = absurd (clash e refl)
  any_found (b ∷ l) e = split (f b) refl (any_found l)
    where
      split : (t : Bool) → f b ≡ t → (any_of f l ≡ true → Found f l) → Found f (b ∷ l)
      split true t k = record { it = b; there = first; is = t }
      split false t k = let s = k (rw t at e) in record { it = s.it; there = later s.there; is = s.is }

  pub any_none : {a : A} {l : List A} → any_of f l ≡ false → In a l → f a ≡ false
  unfolding any_of
  any_none {l = b ∷ l} e first = (or_fails (f b) (any_of f l) e).0
  any_none {l = b ∷ l} e (later i) = any_none (or_fails (f b) (any_of f l) e).1 i
  any_none {a = a} {l = []} e never = elim never [ ]

  pub any_append : (a b : List A) → any_of f (a ++ b) ≡ (any_of f a || any_of f b)
  unfolding any_of
  any_append [] b = refl
  any_append (x ∷ a) b = rw (any_append a b) (sym (or_assoc (f x) (any_of f a) (any_of f b)))

  -- each
  pub all_in : {a : A} {l : List A} → all_of f l ≡ true → In a l → f a ≡ true
  unfolding all_of
  all_in {l = b ∷ l} e first = and_left (f b) (all_of f l) e
  all_in {l = b ∷ l} e (later i) = all_in (and_right (f b) (all_of f l) e) i
  all_in {a = a} {l = []} e never = elim never [ ]

  pub all_of_lem : (l : List A) → ((a : A) → In a l → f a ≡ true) → all_of f l ≡ true
  unfolding all_of
  all_of_lem [] h = refl
  all_of_lem (b ∷ l) h = rw (h b first) (all_of_lem l (λ a i. h a (later i)))

  pub all_append : (a b : List A) → all_of f (a ++ b) ≡ (all_of f a && all_of f b)
  unfolding all_of
  all_append [] b = refl
  all_append (x ∷ a) b = rw (all_append a b) (sym (and_assoc (f x) (all_of f a) (all_of f b)))

  -- those
  pub those_in : {a : A} (l : List A) → In a (those f l) → In a l
  unfolding those
  those_in (b ∷ l) i = go (f b) i (those_in l)
    where
      go : {a : A} (t : Bool) → In a (cond t (b ∷ those f l) (those f l)) → (In a (those f l) → In a l) → In a (b ∷ l)
      go true first k = first
      go true (later i) k = later (k i)
      go false i k = later (k i)
  those_in {a = a} [] i = elim i [ ]

  pub those_pass : {a : A} (l : List A) → In a (those f l) → f a ≡ true
  unfolding those
  those_pass (b ∷ l) i = go (f b) refl i (those_pass l)
    where
      go : {a : A} (t : Bool) → f b ≡ t → In a (cond t (b ∷ those f l) (those f l)) → (In a (those f l) → f a ≡ true) → f a ≡ true
      go true e first k = e
      go true e (later i) k = k i
      go false e i k = k i
  those_pass {a = a} [] i = elim i [ ]

  pub in_those : {a : A} {l : List A} → In a l → f a ≡ true → In a (those f l)
  unfolding those
  in_those first e = rw e first
  in_those (later {b = b} {l = l} i) e = go (f b) (in_those i e)
    where
      go : {a : A} (t : Bool) → In a (those f l) → In a (cond t (b ∷ those f l) (those f l))
      go true i = later i
      go false i = i

  -- the list less its first that passes
  pub less_in : {a : A} (l : List A) → In a (less_first f l) → In a l
  unfolding less_first
  less_in (b ∷ l) i = go (f b) i (less_in l)
    where
      go : {a : A} (t : Bool) → In a (cond t l (b ∷ less_first f l)) → (In a (less_first f l) → In a l) → In a (b ∷ l)
      go true i k = later i
      go false first k = first
      go false (later i) k = later (k i)
  less_in {a = a} [] i = elim i [ ]

  pub in_less : {a : A} {l : List A} → In a l → f a ≡ false → In a (less_first f l)
  unfolding less_first
  in_less first e = rw e first
  in_less (later {b = b} {l = l} i) e = go (f b) i (in_less i e)
    where
      go : {a : A} (t : Bool) → In a l → In a (less_first f l) → In a (cond t l (b ∷ less_first f l))
      go true i j = i
      go false i j = later j

module _ {A B : Type 0} (f : A → B) where
  pub in_map : {a : A} {l : List A} → In a l → In (f a) (map f l)
  in_map first = first
  in_map (later i) = later (in_map i)

  pub record Mapped (b : B) (l : List A) : Type 0 where
    pub from : A
    pub there : In from l
    pub is : f from ≡ b

  pub map_in : (l : List A) {b : B} → In b (map f l) → Mapped b l
  map_in (a ∷ l) first = record { from = a; there = first; is = refl }
  map_in (a ∷ l) (later i) = let m = map_in l i in record { from = m.from; there = later m.there; is = m.is }
  map_in [] never = elim never [ ]

module _ {A : Type 0} where
  pub in_left : {a : A} {l : List A} (m : List A) → In a l → In a (l ++ m)
  in_left m first = first
  in_left m (later i) = later (in_left m i)

  pub in_right : {a : A} (l : List A) {m : List A} → In a m → In a (l ++ m)
  in_right [] i = i
  in_right (b ∷ l) i = later (in_right l i)

  -- a member of a list is its first or stands behind it
  pub in_cons : {a b : A} {l : List A} → In a (b ∷ l) → (a ≡ b) ⊎ In a l
  in_cons first = inl refl
  in_cons (later i) = inr i

  pub in_append : {a : A} (l : List A) {m : List A} → In a (l ++ m) → In a l ⊎ In a m
  in_append [] i = inr i
  in_append (b ∷ l) first = inl first
  in_append (b ∷ l) {m} (later i) = go (in_append l i)
    where
      go : {a : A} → In a l ⊎ In a m → In a (b ∷ l) ⊎ In a m
      go (inl j) = inl (later j)
      go (inr j) = inr j

  pub not_empty : {a : A} {l : List A} → In a l → empty l ≡ false
  unfolding empty
  not_empty first = refl
  not_empty (later i) = refl

-- a number in a list
pub member_in : {x : ℕ} (l : List ℕ) → member x l ≡ true → In x l
unfolding member
member_in {x} l e = let f = any_found (eqb x) l e in let q : x ≡ f.it = eqb-true x f.it f.is in rw q f.there

pub in_member : {x : ℕ} {l : List ℕ} → In x l → member x l ≡ true
unfolding member
in_member {x} i = any_in (eqb x) i (eq-eqb x x refl)

module _ {A : Type 0} where
  -- nothing stands in no list
  pub none_in : {a : A} → In a [] → ⊥
  unfolding empty
  none_in i = clash refl (not_empty i)

  -- a list that is not empty has a first
  pub some_in : (l : List A) → not (empty l) ≡ true → (a : A) × In a l
  unfolding empty
  some_in [] e = absurd (clash e refl)
  some_in (a ∷ l) e = (a, first)

  -- what holds of the first and of each of the rest holds of each
  pub each_of : (P : A → Type 0) {b : A} {l : List A} → P b → ((a : A) → In a l → P a) → (a : A) → In a (b ∷ l) → P a
  each_of P h k a first = h
  each_of P h k a (later i) = k a i

  -- a list in which something stands is not empty
  pub in_some : {a : A} {l : List A} → In a l → 1 ≤ length l
  in_some first = omega arith
  in_some (later i) = omega arith

  -- what stands behind a list, in two
  pub at_length : (l : List A) (a : A) (m : List A) (d : A) → get_or (l ++ a ∷ m) (length l) d ≡ a
  at_length [] a m d = refl
  at_length (b ∷ l) a m d = at_length l a m d

-- tests that agree on each of a list
module _ {A : Type 0} {f g : A → Bool} where
  pub any_alike : (l : List A) → ((a : A) → In a l → f a ≡ g a) → any_of f l ≡ any_of g l
  unfolding any_of
  any_alike [] h = refl
  any_alike (a ∷ l) h = ap₂ (λ s t. s || t) (h a first) (any_alike l (λ b i. h b (later i)))

  pub all_alike : (l : List A) → ((a : A) → In a l → f a ≡ g a) → all_of f l ≡ all_of g l
  unfolding all_of
  all_alike [] h = refl
  all_alike (a ∷ l) h = ap₂ (λ s t. s && t) (h a first) (all_alike l (λ b i. h b (later i)))

  pub those_alike : (l : List A) → ((a : A) → In a l → f a ≡ g a) → those f l ≡ those g l
  unfolding those
  those_alike [] h = refl
  those_alike (a ∷ l) h = ap₂ (λ t r. cond t (a ∷ r) r) (h a first) (those_alike l (λ b i. h b (later i)))

-- functions that agree on each of a list
module _ {A B : Type 0} where
  pub map_alike : {f g : A → B} (l : List A) → ((a : A) → In a l → f a ≡ g a) → map f l ≡ map g l
  map_alike [] h = refl
  map_alike (a ∷ l) h = ap₂ ◌∷◌ (h a first) (map_alike l (λ b i. h b (later i)))

-- what is asked behind a test needs to agree only where the test passes
pub and_alike : (t : Bool) {a b : Bool} → (t ≡ true → a ≡ b) → (t && a) ≡ (t && b)
and_alike true h = h refl
and_alike false h = refl
