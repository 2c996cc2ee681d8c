-- How many: the classes of an element, the rights of a set, the rows of a set and of an alternative.
-- Assumes nothing.
use mathlib.Core.Path.{◌≡◌, refl, sym, ap, ap₂, ◌∙◌}
use mathlib.Core.Bool.{Bool, true, false, cond}
use mathlib.Core.List.{List, [], ◌∷◌, ◌++◌}
use Prim.Native.Nat.{ℕ, zero, suc, ◌+◌, ◌*◌, ◌/◌, ◌%◌, ◌^◌, ◌≤◌, ◌<◌}
use native.Mathlib.Nat.{div-one, add_comm, mul-le-mul_right, suc-mul}
use native.Mathlib.Omega.{arith}
use mir.Syntax.{w64}
use mir.Val.{Fits}
use mir.Facts.{Fits-le, Fits-lit}
use lib.Count.{ones, ones_step, ones-le}
use lib.Pow.{shr-shr}
use lib.Dec.{eqb}
use lib.ListN.{length, get_or, length-append, length-map}
use Rattle.model.specs.Lists.{those, tabulate}
use Rattle.model.specs.Policy.{Policy, has_right}
use Rattle.model.specs.Contain.{contained}
use Rattle.model.specs.Rule.{classes_of}
use Rattle.model.specs.Explain.{joined}
use Rattle.table.specs.Facts.{AtMost}
use Rattle.request.specs.Sets.{rights_in}
use Rattle.request.specs.declared.Request.{Request}
use Rattle.rule.specs.declared.Asking.{Asking}
use Rattle.held.specs.Lacking.{Rows}
use Rattle.decide.specs.Asks.{asking_of, with_right, AllRows}
use Rattle.grants.specs.Numbers.{class_numbers, right_numbers, set_numbers, grant_numbers}

-- of two lists that are told off, as many pass one test as pass another
many_alike : {A B : Type 0} (s : A → Bool) (t : B → Bool) (n : ℕ) (f : ℕ → A) (g : ℕ → B) → ((i : ℕ) → s (f i) ≡ t (g i))
    → length (those s (tabulate n f)) ≡ length (those t (tabulate n g))
unfolding those tabulate
many_alike s t zero f g e = refl
many_alike {A} {B} s t (suc n) f g e = rw (e 0) (go (t (g 0)) (f 0) (g 0) _ _ (many_alike s t n (λ i. f (suc i)) (λ i. g (suc i)) (λ i. e (suc i))))
  where
    go : (b : Bool) (x : A) (y : B) (l : List A) (m : List B) → length l ≡ length m → length (cond b (x ∷ l) l) ≡ length (cond b (y ∷ m) m)
    go true x y l m k = ap suc k
    go false x y l m k = k

-- right i of half a set is the next of the whole
right_halved : (rights i : ℕ) → has_right (rights / 2) i ≡ has_right rights (suc i)
unfolding has_right
right_halved rights i =
    let e : 1 + i ≡ suc i = omega arith in
    ap (λ (x : ℕ). eqb (x % 2) 1) (shr-shr rights 1 i ∙ ap (λ (j : ℕ). rights / 2 ^ j) e)

-- a number below 2 ^ k has as many bits as rights below k
bits_many : (k n : ℕ) → n < 2 ^ k → ones n ≡ length (those (has_right n) (tabulate k (λ i. i)))
unfolding those tabulate has_right
bits_many zero n l = omega (arith, ones-le 0 n l)
bits_many (suc k) n l =
    ones_step n
    ∙ ap (λ (m : ℕ). n % 2 + m) (bits_many k (n / 2) (omega (arith, pow_suc)) ∙ many_alike (has_right (n / 2)) (has_right n) k (λ i. i) suc (right_halved n))
    ∙ (rw (div-one n) (lowest (n % 2) (omega arith)))
  where
    pow_suc : 2 ^ suc k ≡ 2 * 2 ^ k
    pow_suc = omega arith

    lowest : (b : ℕ) → b < 2 → b + length (those (has_right n) (tabulate k suc)) ≡ length (cond (eqb b 1) (0 ∷ those (has_right n) (tabulate k suc)) (those (has_right n) (tabulate k suc)))
    lowest zero h = omega arith
    lowest (suc zero) h = omega arith
    lowest (suc (suc b)) h = absurd (omega arith)

-- the rights of a set are counted
pub rights_counted : (rights : ℕ) → rights < 2 ^ 32 → {n : ℕ} → n ≡ ones rights → AtMost (length (rights_in rights)) 32 n
unfolding rights_in
rights_counted rights l e = record { is = e ∙ bits_many 32 rights l; few = omega (arith, e, ones-le 32 rights l) }

-- parts of n rows each, joined
joined_length : {A B : Type 0} (f : A → List B) (n : ℕ) → ((a : A) → length (f a) ≡ n) → (l : List A) → length (joined f l) ≡ length l * n
unfolding joined
joined_length f n h [] = omega arith
joined_length f n h (a ∷ l) = length-append (f a) (joined f l) ∙ ap₂ ◌+◌ (h a) (joined_length f n h l) ∙ add_comm n (length l * n) ∙ sym (suc-mul (length l) n)

-- the empty set has no right
pub empty_set : rights_in 0 ≡ []
unfolding rights_in has_right those tabulate
empty_set = refl

-- so it has no rows
pub empty_rows : (p : Policy) (q : Asking) (alternative k : ℕ) → set_numbers p q 0 alternative k ≡ []
unfolding set_numbers joined
empty_rows p q alternative k = rw empty_set

-- and none are counted
pub none_counted : (p : Policy) (q : Asking) {rights : ℕ} → rights ≡ 0 → AtMost (length (set_numbers p q rights 0 0)) 16352 0
none_counted p q e = rw (e, empty_rows p q 0 0) (record { is = refl; few = omega arith })

-- a set has as many rows as it has rights times the classes of the element, whatever the alternative and the position
pub set_length : (p : Policy) (q : Asking) (rights alternative k : ℕ)
    → length (set_numbers p q rights alternative k) ≡ length (rights_in rights) * length (classes_of (contained p q.element) p)
unfolding set_numbers right_numbers
set_length p q rights alternative k =
    joined_length (λ r. right_numbers p (with_right q r) alternative k) (length (classes_of (contained p q.element) p))
    (λ r. length-map (classes_of (contained p q.element) p) (class_numbers p (with_right q r) alternative k)) (rights_in rights)

-- at most 32 times at most 511
product_few : {a b n m : ℕ} → AtMost n 32 a → AtMost m 511 b → a * b ≤ 16352
product_few {a} {b} x y = omega (arith, mul-le-mul_right b x.few, y.few)

-- so the product is no greater than a number can be
pub product_fits : {a b n m : ℕ} → AtMost n 32 a → AtMost m 511 b → Fits w64 (a * b)
product_fits x y = Fits-le (product_few x y) (Fits-lit tt)

-- the rows of a set are counted
pub set_counted : (p : Policy) (q : Asking) (rights : ℕ) {a b : ℕ} → AtMost (length (rights_in rights)) 32 a
    → AtMost (length (classes_of (contained p q.element) p)) 511 b → AtMost (length (set_numbers p q rights 0 0)) 16352 (a * b)
set_counted p q rights x y = record { is = ap₂ ◌*◌ x.is y.is ∙ sym (set_length p q rights 0 0); few = product_few x y }

-- the rows of a set, elsewhere
set_alike : (p : Policy) (q : Asking) (rights alternative k alternative' k' : ℕ)
    → length (set_numbers p q rights alternative k) ≡ length (set_numbers p q rights alternative' k')
set_alike p q rights alternative k alternative' k' = set_length p q rights alternative k ∙ sym (set_length p q rights alternative' k')

-- the rows of an alternative are those of its sets
pub grant_length : (p : Policy) (q : Request) (user alternative : ℕ) (sets : List ℕ)
    → length (grant_numbers p q user alternative sets)
    ≡ length (set_numbers p (asking_of q user false q.first 1 0) (get_or sets 0 0) 0 0)
    + (length (set_numbers p (asking_of q user false q.second 2 0) (get_or sets 1 0) 0 0)
    + length (set_numbers p (asking_of q user false q.third 3 0) (get_or sets 2 0) 0 0))
unfolding grant_numbers
grant_length p q user alternative sets =
    let a : List (List ℕ) = set_numbers p (asking_of q user false q.first 1 0) (get_or sets 0 0) alternative 1 in
    let b : List (List ℕ) = set_numbers p (asking_of q user false q.second 2 0) (get_or sets 1 0) alternative 2 in
    let c : List (List ℕ) = set_numbers p (asking_of q user false q.third 3 0) (get_or sets 2 0) alternative 3 in
    length-append a (b ++ c)
    ∙ ap₂ ◌+◌ (set_alike p (asking_of q user false q.first 1 0) (get_or sets 0 0) alternative 1 0 0)
    (length-append b c
    ∙ ap₂ ◌+◌ (set_alike p (asking_of q user false q.second 2 0) (get_or sets 1 0) alternative 2 0 0)
    (set_alike p (asking_of q user false q.third 3 0) (get_or sets 2 0) alternative 3 0 0))

-- whatever its number
pub grant_length_alike : (p : Policy) (q : Request) (user alternative : ℕ) (sets : List ℕ)
    → length (grant_numbers p q user alternative sets) ≡ length (grant_numbers p q user 0 sets)
grant_length_alike p q user alternative sets = grant_length p q user alternative sets ∙ sym (grant_length p q user 0 sets)

-- What is asked over each argument, as the code makes it.
module _ {mem rows : List ℕ} {q : Request} {user : ℕ} (w : AllRows mem rows false q user) {x : Asking} where
  -- the rows say what is meant of the first
  pub rows_first : x ≡ asking_of q user false q.first 1 0 → Rows mem rows false x
  rows_first e = rw e w.first

  -- of the second
  pub rows_second : x ≡ asking_of q user false q.second 2 0 → Rows mem rows false x
  rows_second e = rw e w.second

  -- of the third
  pub rows_third : x ≡ asking_of q user false q.third 3 0 → Rows mem rows false x
  rows_third e = rw e w.third

-- the rows of an alternative are counted, argument by argument
pub grant_counted : (p : Policy) (q : Request) (user : ℕ) (sets : List ℕ) {x y z : Asking} {a b c : ℕ}
    → x ≡ asking_of q user false q.first 1 0 → AtMost (length (set_numbers p x (get_or sets 0 0) 0 0)) 16352 a
    → y ≡ asking_of q user false q.second 2 0 → AtMost (length (set_numbers p y (get_or sets 1 0) 0 0)) 16352 b
    → z ≡ asking_of q user false q.third 3 0 → AtMost (length (set_numbers p z (get_or sets 2 0) 0 0)) 16352 c
    → AtMost (length (grant_numbers p q user 0 sets)) 49056 (a + b + c)
grant_counted p q user sets ex ka ey kb ez kc =
    let l = grant_length p q user 0 sets in
    let i = ka.is ∙ ap (λ (t : Asking). length (set_numbers p t (get_or sets 0 0) 0 0)) ex in
    let j = kb.is ∙ ap (λ (t : Asking). length (set_numbers p t (get_or sets 1 0) 0 0)) ey in
    let k = kc.is ∙ ap (λ (t : Asking). length (set_numbers p t (get_or sets 2 0) 0 0)) ez in
    record { is = omega (arith, l, i, j, k); few = omega (arith, ka.few, kb.few, kc.few) }
