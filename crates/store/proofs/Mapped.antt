-- Records and what they denote: a record put into or taken out of a group, seen through what each record denotes; fields packed into one word
-- keep their order.
-- Assumes nothing.
use mathlib.Core.Path.{◌≡◌, refl, sym, ap, ap₂, ◌∙◌}
use mathlib.Core.Bool.{Bool, true, false, cond, ◌&&◌}
use mathlib.Core.List.{List, [], ◌∷◌, map}
use Prim.Native.Nat.{ℕ, zero, suc, ◌+◌, ◌*◌, ◌≤◌, ◌<◌}
use native.Mathlib.Nat.{mul-le-mul_right, suc-mul}
use native.Mathlib.Omega.{arith}
use native.Mathlib.Decide.{dec_lt, ℕ_discrete}
use borrow.Author.Tests.{eq-eqb, ne_eqb, eqb-true, le-ltb}
use lib.Dec.{eqb}
use Rattle.model.specs.Lists.{In, first, later, those, less_first, tabulate, before, precedes, rising, same, put}
use Rattle.model.proofs.Order.{first_lower}
use Rattle.model.proofs.Truth.{and_left, and_right, fails_when}

module _ {A B : Type 0} (f : A → B) where
  -- a list told off, each seen through f
  pub map_tabulate : (n : ℕ) (g : ℕ → A) → map f (tabulate n g) ≡ tabulate n (λ i. f (g i))
  unfolding tabulate
  map_tabulate zero g = refl
  map_tabulate (suc n) g = ap (λ l. f (g 0) ∷ l) (map_tabulate n (λ i. g (suc i)))

  -- a list rises as what its members denote does, where f keeps the order
  pub map_rising : (key_a : A → List ℕ) (key_b : B → List ℕ) (l : List A)
      → ((a b : A) → In a l → In b l → before (key_a a) (key_a b) ≡ before (key_b (f a)) (key_b (f b))) → rising key_a l ≡ rising key_b (map f l)
  unfolding rising precedes
  map_rising key_a key_b [] h = refl
  map_rising key_a key_b (a ∷ []) h = refl
  map_rising key_a key_b (a ∷ b ∷ l) h = ap₂ ◌&&◌ (h a b first (later first)) (map_rising key_a key_b (b ∷ l) (λ x y i j. h x y (later i) (later j)))

  -- one put in its place, where f keeps the order
  pub map_put : (key_a : A → List ℕ) (key_b : B → List ℕ) (a : A) (l : List A) → ((b : A) → In b l → before (key_a a) (key_a b) ≡ before (key_b (f a)) (key_b (f b)))
      → map f (put key_a a l) ≡ put key_b (f a) (map f l)
  unfolding put
  map_put key_a key_b a [] h = refl
  map_put key_a key_b a (b ∷ l) h = go (before (key_a a) (key_a b)) refl (map_put key_a key_b a l (λ c i. h c (later i)))
    where
      go : (t : Bool) → before (key_a a) (key_a b) ≡ t → map f (put key_a a l) ≡ put key_b (f a) (map f l)
          → map f (cond (before (key_a a) (key_a b)) (a ∷ b ∷ l) (b ∷ put key_a a l)) ≡ cond (before (key_b (f a)) (key_b (f b))) (f a ∷ f b ∷ map f l) (f b ∷ put key_b (f a) (map f l))
      go true q r = rw (← h b first, q) refl
      go false q r = rw (← h b first, q) (ap (λ m. f b ∷ m) r)

  -- the first that passes taken out, where f keeps the test
  pub map_less : (s : A → Bool) (t : B → Bool) (l : List A) → ((b : A) → In b l → s b ≡ t (f b)) → map f (less_first s l) ≡ less_first t (map f l)
  unfolding less_first
  map_less s t [] h = refl
  map_less s t (b ∷ l) h = go (s b) refl (map_less s t l (λ c i. h c (later i)))
    where
      go : (v : Bool) → s b ≡ v → map f (less_first s l) ≡ less_first t (map f l) → map f (cond (s b) l (b ∷ less_first s l)) ≡ cond (t (f b)) (map f l) (f b ∷ less_first t (map f l))
      go true q r = rw (← h b first, q) refl
      go false q r = rw (← h b first, q) (ap (λ m. f b ∷ m) r)

  -- those that pass, where f keeps the test
  pub map_those : (s : A → Bool) (t : B → Bool) (l : List A) → ((b : A) → In b l → s b ≡ t (f b)) → map f (those s l) ≡ those t (map f l)
  unfolding those
  map_those s t [] h = refl
  map_those s t (b ∷ l) h = go (s b) refl (map_those s t l (λ c i. h c (later i)))
    where
      go : (v : Bool) → s b ≡ v → map f (those s l) ≡ those t (map f l) → map f (cond (s b) (b ∷ those s l) (those s l)) ≡ cond (t (f b)) (f b ∷ those t (map f l)) (those t (map f l))
      go true q r = rw (← h b first, q) (ap (λ m. f b ∷ m) r)
      go false q r = rw (← h b first, q) r

-- One field decides, or the rest does.
field_same : (x y : ℕ) (xs ys : List ℕ) → x ≡ y → before (x ∷ xs) (y ∷ ys) ≡ before xs ys
unfolding before
field_same x y xs ys e = rw (le-ltb x y (omega arith), eq-eqb x y e) refl

field_above : (x y : ℕ) (xs ys : List ℕ) → y < x → before (x ∷ xs) (y ∷ ys) ≡ false
unfolding before
field_above x y xs ys h = rw (le-ltb x y (omega arith), ne_eqb x y (λ e. omega arith)) refl

-- the rest matters only where the first fields are the same
pub field_alike : (x y : ℕ) (xs ys us vs : List ℕ) → (x ≡ y → before xs ys ≡ before us vs) → before (x ∷ xs) (y ∷ ys) ≡ before (x ∷ us) (y ∷ vs)
field_alike x y xs ys us vs h = elim (dec_lt x y) [
  | yes l ↦ first_lower x y xs ys l ∙ sym (first_lower x y us vs l)
  | no n ↦ elim (ℕ_discrete x y) [
    | yes e ↦ field_same x y xs ys e ∙ h e ∙ sym (field_same x y us vs e)
    | no d ↦ let l : y < x = omega (arith, d) in field_above x y xs ys l ∙ sym (field_above x y us vs l)
  ]
]

-- a number of two parts is below one whose first part is greater
packed_below : (m a b x y : ℕ) → b < m → a < x → a * m + b < x * m + y
packed_below m a b x y h k = let r : suc a * m ≤ x * m = mul-le-mul_right m k in omega (arith, r, suc-mul a m)

-- two fields as one number, in the same order
pub fields_packed : (m a b x y : ℕ) (us vs : List ℕ) → b < m → y < m → before (a ∷ b ∷ us) (x ∷ y ∷ vs) ≡ before ((a * m + b) ∷ us) ((x * m + y) ∷ vs)
fields_packed m a b x y us vs h l = elim (dec_lt a x) [
  | yes k ↦ first_lower a x (b ∷ us) (y ∷ vs) k ∙ sym (first_lower (a * m + b) (x * m + y) us vs (packed_below m a b x y h k))
  | no k ↦ elim (ℕ_discrete a x) [
    | yes e ↦ field_same a x (b ∷ us) (y ∷ vs) e ∙ lower e
    | no d ↦ let q : x < a = omega (arith, d) in field_above a x (b ∷ us) (y ∷ vs) q ∙ sym (field_above (a * m + b) (x * m + y) us vs (packed_below m x y a b l q))
  ]
]
  where
    lower : a ≡ x → before (b ∷ us) (y ∷ vs) ≡ before ((a * m + b) ∷ us) ((x * m + y) ∷ vs)
    lower e = elim (dec_lt b y) [
      | yes k ↦ first_lower b y us vs k ∙ sym (first_lower (a * m + b) (x * m + y) us vs (rw e (omega arith)))
      | no k ↦ elim (ℕ_discrete b y) [
        | yes q ↦ field_same b y us vs q ∙ sym (field_same (a * m + b) (x * m + y) us vs (rw (e, q) refl))
        | no d ↦ let q : y < b = omega (arith, d) in field_above b y us vs q ∙ sym (field_above (a * m + b) (x * m + y) us vs (rw e (omega arith)))
      ]
    ]

-- numbers of two parts are the same only if the parts are
packed_equal : (m a b x y : ℕ) → b < m → y < m → a * m + b ≡ x * m + y → (a ≡ x) × (b ≡ y)
packed_equal m a b x y h l e = elim (dec_lt a x) [
  | yes k ↦ absurd (omega (arith, packed_below m a b x y h k))
  | no k ↦ elim (dec_lt x a) [
    | yes q ↦ absurd (omega (arith, packed_below m x y a b l q))
    | no q ↦ let s : a ≡ x = omega arith in (s, let r : a * m ≡ x * m = ap (λ (n : ℕ). n * m) s in omega (arith, r))
  ]
]

-- two fields as one number, the same where they are
pub same_packed : (m a b x y : ℕ) (us vs : List ℕ) → b < m → y < m → same (a ∷ b ∷ us) (x ∷ y ∷ vs) ≡ same ((a * m + b) ∷ us) ((x * m + y) ∷ vs)
unfolding same
same_packed m a b x y us vs h l = elim (ℕ_discrete (a * m + b) (x * m + y)) [
  | yes e ↦ let p = packed_equal m a b x y h l e in rw (eq-eqb (a * m + b) (x * m + y) e, eq-eqb a x p.0, eq-eqb b y p.1) refl
  | no d ↦ rw (ne_eqb (a * m + b) (x * m + y) d) (fails_when (eqb a x && (eqb b y && same us vs)) (λ t.
      d (let p : a ≡ x = eqb-true a x (and_left (eqb a x) (eqb b y && same us vs) t) in
      let q : b ≡ y = eqb-true b y (and_left (eqb b y) (same us vs) (and_right (eqb a x) (eqb b y && same us vs) t)) in
      rw (p, q) refl)))
]
