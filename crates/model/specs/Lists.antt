-- Words for lists that 01 uses: some, each, those, strictly rising, in its place.
-- Assumes nothing.
use Rattle.std.specs.Prelude.{Bool, true, false, cond, ◌&&◌, ◌||◌, List, [], ◌∷◌, ℕ, zero, suc, eqb, ltb}

-- a stands in the list
pub data In {A : Type 0} (a : A) : List A → Type 0 where
  first : {l : List A} → In a (a ∷ l)
  later : {b : A} {l : List A} → In a l → In a (b ∷ l)

module _ {A : Type 0} where
  -- some passes the test
  unfoldable pub any_of : (A → Bool) → List A → Bool
  any_of f [] = false
  any_of f (a ∷ l) = f a || any_of f l

  -- each passes the test
  unfoldable pub all_of : (A → Bool) → List A → Bool
  all_of f [] = true
  all_of f (a ∷ l) = f a && all_of f l

  -- those that pass the test, in their order
  unfoldable pub those : (A → Bool) → List A → List A
  those f [] = []
  those f (a ∷ l) = cond (f a) (a ∷ those f l) (those f l)

  -- the list less the first that passes the test
  unfoldable pub less_first : (A → Bool) → List A → List A
  less_first f [] = []
  less_first f (a ∷ l) = cond (f a) l (a ∷ less_first f l)

  -- the list has no member
  unfoldable pub empty : List A → Bool
  empty [] = true
  empty (a ∷ l) = false

  -- f 0, f 1, and so on, n of them
  unfoldable pub tabulate : ℕ → (ℕ → A) → List A
  tabulate zero f = []
  tabulate (suc n) f = f 0 ∷ tabulate n (λ i. f (suc i))

-- lists of one, two and three
abbrev pub one {ℓ} : {A : Type ℓ} → A → List A
one a = a ∷ []

abbrev pub two {ℓ} : {A : Type ℓ} → A → A → List A
two a b = a ∷ b ∷ []

abbrev pub three {ℓ} : {A : Type ℓ} → A → A → A → List A
three a b c = a ∷ b ∷ c ∷ []

-- the number x stands in the list
unfoldable pub member : ℕ → List ℕ → Bool
member x l = any_of (eqb x) l

-- the least of some numbers, the first given among them
unfoldable pub least_of : ℕ → List ℕ → ℕ
least_of x [] = x
least_of x (y ∷ l) = least_of (cond (ltb y x) y x) l

-- "its fields compared as written": the first field that differs decides
unfoldable pub before : List ℕ → List ℕ → Bool
before [] [] = false
before [] (y ∷ ys) = true
before (x ∷ xs) [] = false
before (x ∷ xs) (y ∷ ys) = ltb x y || eqb x y && before xs ys

-- the same fields
unfoldable pub same : List ℕ → List ℕ → Bool
same [] [] = true
same [] (y ∷ ys) = false
same (x ∷ xs) [] = false
same (x ∷ xs) (y ∷ ys) = eqb x y && same xs ys

-- Records in the order of a key, a list of fields.
module _ {A : Type 0} (key : A → List ℕ) where
  -- a is before whatever comes first in the list
  unfoldable pub precedes : A → List A → Bool
  precedes a [] = true
  precedes a (b ∷ l) = before (key a) (key b)

  -- "strictly rises"
  unfoldable pub rising : List A → Bool
  rising [] = true
  rising (a ∷ l) = precedes a l && rising l

  -- the list with a in its place: before the first that it is before
  unfoldable pub put : A → List A → List A
  put a [] = a ∷ []
  put a (b ∷ l) = cond (before (key a) (key b)) (a ∷ b ∷ l) (b ∷ put a l)

  -- the lowest by the key, the one given among them
  unfoldable pub lowest_of : A → List A → A
  lowest_of a [] = a
  lowest_of a (b ∷ l) = lowest_of (cond (before (key b) (key a)) b a) l

-- a list of ids strictly rises
unfoldable pub rising_ids : List ℕ → Bool
rising_ids l = rising (λ x. one x) l
