-- What is told of each number below n, one after another; and the classes of an element as numbers below 512.
-- Assumes nothing.
use mathlib.Core.Path.{◌≡◌, refl, sym, ap, ap₂, ◌∙◌}
use mathlib.Core.Bool.{Bool, true, false, cond, ◌&&◌, and-false}
use mathlib.Core.List.{List, [], ◌∷◌, ◌++◌, map, append-nil, append_assoc}
use mathlib.Core.Logic.{inl}
use Prim.Native.Nat.{ℕ, zero, suc, ◌+◌, ◌≤◌, ◌<◌}
use native.Mathlib.Numerals.{add-one}
use native.Mathlib.Omega.{arith}
use native.Mathlib.Decide.{ℕ_discrete, dec_lt}
use borrow.Author.Tests.{eqb-true, eqb-false, ne_eqb}
use lib.Dec.{eqb, leb}
use lib.ListN.{length, length-append}
use Rattle.model.specs.Lists.{those, one, tabulate}
use Rattle.model.specs.Policy.{Element, class, is_kind, kind_of}
use Rattle.model.specs.Rule.{classes, classes_of}
use Rattle.model.specs.Explain.{joined}
use Rattle.model.proofs.Truth.{tested, passes, fails}
use Rattle.table.specs.Layout.{kind_word}
use Rattle.table.specs.View.{policy_of, elements_of}
use Rattle.table.proofs.ById.{kind_outside, kind_above, kind_is}
use Rattle.rule.specs.Parts.{class_of}
use Rattle.lowest.proofs.Firsts.{tabulate_last}

-- the rows of 0, of 1, and so on, n of them
unfoldable pub below : (ℕ → List (List ℕ)) → ℕ → List (List ℕ)
below F zero = []
below F (suc n) = below F n ++ F n

module _ (F : ℕ → List (List ℕ)) where
  -- one more
  pub below_more : (n : ℕ) → below F (n + 1) ≡ below F n ++ F n
  unfolding below
  below_more n = rw (add-one n)

  -- the rows of one of them have room behind those before it
  pub below_room : (n c : ℕ) → c < n → length (below F c) + length (F c) ≤ length (below F n)
  unfolding below
  below_room zero c l = absurd (omega arith)
  below_room (suc n) c l = elim (ℕ_discrete c n) [
    | yes q ↦ rw (q, length-append (below F n) (F n)) (omega arith)
    | no q ↦ rw (length-append (below F n) (F n)) (omega (arith, below_room n c (omega arith)))
  ]

module _ {A : Type 0} (t : A → Bool) where
  -- those of a list and of another behind it
  pub those_append : (l m : List A) → those t (l ++ m) ≡ those t l ++ those t m
  unfolding those
  those_append [] m = refl
  those_append (a ∷ l) m = rw (those_append l m) (go (t a))
    where
      go : (b : Bool) → cond b (a ∷ (those t l ++ those t m)) (those t l ++ those t m) ≡ cond b (a ∷ those t l) (those t l) ++ those t m
      go true = refl
      go false = refl

-- those of the numbers below n, the last of them apart
pub those_last : (t : ℕ → Bool) (n : ℕ) → those t (tabulate (suc n) (λ i. i)) ≡ those t (tabulate n (λ i. i)) ++ those t (one n)
those_last t n = ap (those t) (tabulate_last n (λ i. i)) ∙ those_append t (tabulate n (λ i. i)) (one n)

-- where none from c on below n passes, those below n are those below c
pub those_passed : (t : ℕ → Bool) (c n : ℕ) → c ≤ n → ((y : ℕ) → c ≤ y → y < n → t y ≡ false) → those t (tabulate n (λ i. i)) ≡ those t (tabulate c (λ i. i))
unfolding those
those_passed t c zero l h = let e : c ≡ 0 = omega arith in rw e refl
those_passed t c (suc n) l h = elim (ℕ_discrete c (suc n)) [
  | yes e ↦ rw e refl
  | no d ↦
      those_last t n ∙ (rw (h n (omega arith) (omega arith)) (append-nil (those t (tabulate n (λ i. i)))))
      ∙ those_passed t c n (omega arith) (λ y a b. h y a (omega arith))
]

-- those below c are no more than those below n
pub those_few : (t : ℕ → Bool) (c n : ℕ) → c ≤ n → length (those t (tabulate c (λ i. i))) ≤ length (those t (tabulate n (λ i. i)))
those_few t c zero l = let e : c ≡ 0 = omega arith in rw e (omega arith)
those_few t c (suc n) l = elim (ℕ_discrete c (suc n)) [
  | yes e ↦ rw e (omega arith)
  | no d ↦ rw (those_last t n, length-append (those t (tabulate n (λ i. i))) (those t (one n))) (omega (arith, those_few t c n (omega arith)))
]

module _ {A B : Type 0} (f : A → List B) where
  -- what is joined of a list and of another behind it
  pub joined_append : (l m : List A) → joined f (l ++ m) ≡ joined f l ++ joined f m
  unfolding joined
  joined_append [] m = refl
  joined_append (a ∷ l) m = ap (λ (x : List B). f a ++ x) (joined_append l m) ∙ sym (append_assoc (f a) (joined f l) (joined f m))

-- the rows of each that passes a test, joined: of the others there are none
pub joined_below : (f F : ℕ → List (List ℕ)) (t : ℕ → Bool) → ((i : ℕ) → F i ≡ cond (t i) (f i) []) → (n : ℕ)
    → joined f (those t (tabulate n (λ i. i))) ≡ below F n
unfolding below those joined tabulate
joined_below f F t h zero = refl
joined_below f F t h (suc n) =
    ap (joined f) (those_last t n) ∙ joined_append f (those t (tabulate n (λ i. i))) (those t (one n))
    ∙ ap₂ ◌++◌ (joined_below f F t h n) (last (t n) ∙ sym (h n))
  where
    last : (b : Bool) → joined f (cond b (one n) []) ≡ cond b (f n) []
    last true = append-nil (f n)
    last false = refl

-- results of two lists
pub map-append : {A B : Type 0} (f : A → B) (l m : List A) → map f (l ++ m) ≡ map f l ++ map f m
map-append f [] m = refl
map-append {B = B} f (a ∷ l) m = ap (λ (n : List B). f a ∷ n) (map-append f l m)

-- The classes of a policy of words.
module _ (E : ℕ → Bool) (mem : List ℕ) where
  -- an element of the words is a class exactly if its kind is that of classes
  kind_class : (x : ℕ) → 1 ≤ x → x ≤ 511 → eqb (kind_of (policy_of mem) x) class ≡ (is_kind (kind_word mem x) && eqb (kind_word mem x) class)
  unfolding is_kind
  kind_class x l h = elim (tested (eqb (kind_word mem x) class)) [
    | passes e ↦
        let k : kind_word mem x ≡ 5 = eqb-true (kind_word mem x) class e in
        let o : kind_of (policy_of mem) x ≡ 5 = sym (kind_is mem x l h (omega arith)) ∙ k in
        rw (k, o)
    | fails e ↦
        let d : kind_word mem x ≡ 5 → ⊥ = eqb-false (kind_word mem x) class e in
        rw (e, and-false (leb 1 (kind_word mem x) && leb (kind_word mem x) 5)) (ne_eqb (kind_of (policy_of mem) x) class (other d))
  ]
    where
      other : (kind_word mem x ≡ 5 → ⊥) → kind_of (policy_of mem) x ≡ 5 → ⊥
      other d e = elim (dec_lt 5 (kind_word mem x)) [
        | yes g ↦ omega (arith, kind_above mem x g)
        | no g ↦ d (kind_is mem x l h (omega arith) ∙ e)
      ]

  -- those of some of its elements
  classes_told : (n : ℕ) (f : ℕ → ℕ) → ((i : ℕ) → i < n → eqb (kind_of (policy_of mem) (f i)) class ≡ (is_kind (kind_word mem (f i)) && eqb (kind_word mem (f i)) class))
      → those E (map (λ (e : Element). e.id) (those (λ e. eqb e.kind class) (those (λ e. is_kind e.kind) (tabulate n (λ i. record { id = f i; kind = kind_word mem (f i) })))))
      ≡ those (class_of E (policy_of mem)) (tabulate n f)
  unfolding those tabulate class_of
  classes_told zero f h = refl
  classes_told (suc n) f h =
      let rest = classes_told n (λ i. f (suc i)) (λ i l. h (suc i) (omega arith)) in
      let k = h 0 (omega arith) in
      elim (tested (is_kind (kind_word mem (f 0)))) [
        | passes a ↦ elim (tested (eqb (kind_word mem (f 0)) class)) [
          | passes b ↦ let o : eqb (kind_of (policy_of mem) (f 0)) class ≡ true = rw (a, b) at k in rw (a, b, o) (ap (λ (l : List ℕ). cond (E (f 0)) (f 0 ∷ l) l) rest)
          | fails b ↦ let o : eqb (kind_of (policy_of mem) (f 0)) class ≡ false = rw (a, b) at k in rw (a, b, o) rest
        ]
        | fails a ↦ let o : eqb (kind_of (policy_of mem) (f 0)) class ≡ false = rw a at k in rw (a, o) rest
      ]

  -- 0 is no class
  pub zero_other : class_of E (policy_of mem) 0 ≡ false
  unfolding class_of
  zero_other = let z : kind_of (policy_of mem) 0 ≡ 0 = sym (kind_outside mem 0 (inl (omega arith))) in rw z

  -- of 0 and the numbers behind it only those behind it can be classes
  from_one : (n : ℕ) → those (class_of E (policy_of mem)) (tabulate (suc n) (λ i. i)) ≡ those (class_of E (policy_of mem)) (tabulate n suc)
  unfolding those tabulate
  from_one n = rw zero_other

  -- the classes of the element are those of the numbers below 512 that pass the test
  pub classes_below : classes_of E (policy_of mem) ≡ those (class_of E (policy_of mem)) (tabulate 512 (λ i. i))
  unfolding classes_of classes policy_of elements_of
  classes_below = classes_told 511 suc (λ i l. kind_class (suc i) (omega arith) (omega arith)) ∙ sym (from_one 511)

  -- below 1 there is none
  pub no_class : those (class_of E (policy_of mem)) (tabulate 1 (λ i. i)) ≡ []
  unfolding those tabulate
  no_class = from_one 0
