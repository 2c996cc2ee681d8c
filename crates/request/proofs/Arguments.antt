-- The three arguments of a request: each test over all of them is that test on the first, on the second and on the third.
-- Assumes nothing.
use mathlib.Core.Path.{◌≡◌, refl, sym, ap, ap₂, ◌∙◌}
use mathlib.Core.Bool.{Bool, true, false, not, ◌||◌, or-false}
use mathlib.Core.List.{List, [], ◌∷◌}
use mathlib.Core.Logic.{inl, inr}
use Prim.Native.Nat.{ℕ, ◌/◌, ◌%◌, ◌^◌, ◌≤◌, ◌<◌}
use native.Mathlib.Omega.{arith}
use native.Mathlib.Decide.{dec_lt, ℕ_discrete}
use borrow.Author.Tests.{eq-eqb, ne_eqb}
use lib.Dec.{eqb}
use lib.ListN.{get_or, drop}
use Rattle.model.specs.Lists.{all_of, three}
use Rattle.model.specs.Policy.{Policy, is_element_id, is_there, kind_of, has_right}
use Rattle.model.specs.Request.{Kinds, kinds_of, arguments_of, bad_arguments, absent_arguments, wrong_kinds, mismatched}
use Rattle.model.proofs.Truth.{and_cut}
use Rattle.table.specs.Layout.{kind_word}
use Rattle.table.specs.View.{policy_of}
use Rattle.table.proofs.ById.{kind_outside, kind_above, kind_is}
use Rattle.request.specs.declared.Request.{Request}
use Rattle.request.specs.Sets.{set_of, kind_sets, is_bad, is_absent, is_wrong}
use Rattle.request.specs.Asks.{request_of}
use Rattle.request.proofs.Operations.{rest_at, fits, kinds_fit, fits_some, fits_member}

-- One argument: each return.
module _ (kinds e : ℕ) where
  -- one that is not used is bad unless it is 0
  pub bad_unused : kinds ≡ 0 → not (eqb e 0) ≡ is_bad kinds e
  unfolding is_bad
  bad_unused h = rw (eq-eqb kinds 0 h)

  -- one that is used is bad unless it is an id
  pub bad_used : (kinds ≡ 0 → ⊥) → {r : Bool} → r ≡ is_element_id e → not r ≡ is_bad kinds e
  unfolding is_bad
  bad_used h i = rw (ne_eqb kinds 0 h) (ap not i)

  -- one that is not used is not absent
  pub absent_unused : (p : Policy) → kinds ≡ 0 → false ≡ is_absent p kinds e
  unfolding is_absent
  absent_unused p h = rw (eq-eqb kinds 0 h)

  -- one that is used is absent unless it is there
  pub absent_used : (p : Policy) → (kinds ≡ 0 → ⊥) → {r : Bool} → r ≡ is_there p e → not r ≡ is_absent p kinds e
  unfolding is_absent
  absent_used p h i = rw (ne_eqb kinds 0 h) (ap not i)

  -- one that is not used is of no wrong kind
  pub wrong_unused : (p : Policy) → kinds ≡ 0 → false ≡ is_wrong p kinds e
  unfolding is_wrong
  wrong_unused p h = rw (eq-eqb kinds 0 h)

-- a kind is at most 5
pub kind_small : (mem : List ℕ) (x : ℕ) → kind_of (policy_of mem) x ≤ 5
kind_small mem x = elim (dec_lt x 1) [
  | yes l ↦ omega (arith, kind_outside mem x (inl l))
  | no l ↦ elim (dec_lt 511 x) [
    | yes g ↦ omega (arith, kind_outside mem x (inr g))
    | no g ↦ elim (dec_lt 5 (kind_word mem x)) [
      | yes a ↦ omega (arith, kind_above mem x a)
      | no a ↦ omega (arith, kind_is mem x (omega arith) (omega arith) (omega arith))
    ]
  ]
]

-- a bit is 0 exactly if it is not 1
bit_clear : (b : ℕ) → b < 2 → eqb b 0 ≡ not (eqb b 1)
bit_clear b h = elim (ℕ_discrete b 0) [
  | yes e ↦ rw e
  | no d ↦ let e : b ≡ 1 = omega (arith, d) in rw e
]

-- one that is used is of a wrong kind exactly if the bit of its kind is 0
pub wrong_used : (mem : List ℕ) (kinds e : ℕ) → (kinds ≡ 0 → ⊥) → {k : ℕ} → k ≡ kind_of (policy_of mem) e
    → eqb (kinds / 2 ^ (k % 8) % 2) 0 ≡ is_wrong (policy_of mem) kinds e
unfolding is_wrong has_right
wrong_used mem kinds e h {k} i =
    let s : k % 8 ≡ kind_of (policy_of mem) e = omega (arith, kind_small mem e) in
    rw (ne_eqb kinds 0 h, s) (bit_clear (kinds / 2 ^ kind_of (policy_of mem) e % 2) (omega arith))

-- the kinds behind the first fit where all do
fit_rest : (ks : List Kinds) → all_of fits ks ≡ true → all_of fits (drop 1 ks) ≡ true
unfolding all_of
fit_rest [] e = refl
fit_rest (k ∷ ks) e = (and_cut (fits k) (all_of fits ks) e).1

-- A test over the arguments in their places, by what it says of one argument and those behind it.
module _ (all : List Kinds → List ℕ → Bool) (each : ℕ → ℕ → Bool) (none : (ks : List Kinds) → all ks [] ≡ false)
    (next : (ks : List Kinds) (e : ℕ) (es : List ℕ) → all_of fits ks ≡ true → all ks (e ∷ es) ≡ (each (set_of (get_or ks 0 [])) e || all (drop 1 ks) es)) where
  -- over three arguments it is the test on each
  three_parts : (ks : List Kinds) → all_of fits ks ≡ true → (a b c : ℕ)
      → all ks (three a b c) ≡ (each (set_of (get_or ks 0 [])) a || (each (set_of (get_or ks 1 [])) b || each (set_of (get_or ks 2 [])) c))
  three_parts ks h a b c =
      let x : Bool = each (set_of (get_or ks 0 [])) a in
      let k1 : List Kinds = drop 1 ks in
      let k2 : List Kinds = drop 1 k1 in
      let h1 : all_of fits k1 ≡ true = fit_rest ks h in
      let last : all k2 (c ∷ []) ≡ each (set_of (get_or ks 2 [])) c =
      next k2 c [] (fit_rest k1 h1)
      ∙ ap (λ t. each (set_of (get_or k2 0 [])) c || t) (none (drop 1 k2))
      ∙ or-false (each (set_of (get_or k2 0 [])) c)
      ∙ ap (λ k. each (set_of k) c) (rest_at k1 0 ∙ rest_at ks 1) in
      let middle : all k1 (b ∷ c ∷ []) ≡ (each (set_of (get_or ks 1 [])) b || each (set_of (get_or ks 2 [])) c) =
      next k1 b (c ∷ []) h1 ∙ ap₂ ◌||◌ (ap (λ k. each (set_of k) b) (rest_at ks 0)) last in
      next ks a (b ∷ c ∷ []) h ∙ ap (λ t. x || t) middle

-- "element not 1..511 .. unused argument not 0": of one argument and those behind it
bad_next : (ks : List Kinds) (e : ℕ) (es : List ℕ) → all_of fits ks ≡ true → bad_arguments ks (e ∷ es) ≡ (is_bad (set_of (get_or ks 0 [])) e || bad_arguments (drop 1 ks) es)
unfolding bad_arguments is_bad set_of all_of
bad_next [] e es h = refl
bad_next (k ∷ ks) e es h = rw (fits_some k (and_cut (fits k) (all_of fits ks) h).0)

-- no argument is not bad
bad_none : (ks : List Kinds) → bad_arguments ks [] ≡ false
unfolding bad_arguments
bad_none [] = refl
bad_none (k ∷ ks) = refl

-- where no argument is used, none is absent
absent_unused_all : (p : Policy) (es : List ℕ) → absent_arguments p [] es ≡ false
unfolding absent_arguments
absent_unused_all p [] = refl
absent_unused_all p (e ∷ es) = refl

-- no argument is not absent
absent_none : (p : Policy) (ks : List Kinds) → absent_arguments p ks [] ≡ false
unfolding absent_arguments
absent_none p [] = refl
absent_none p (k ∷ ks) = refl

-- "named element .. absent": of one argument and those behind it
absent_next : (p : Policy) (ks : List Kinds) (e : ℕ) (es : List ℕ) → all_of fits ks ≡ true
    → absent_arguments p ks (e ∷ es) ≡ (is_absent p (set_of (get_or ks 0 [])) e || absent_arguments p (drop 1 ks) es)
unfolding absent_arguments is_absent set_of all_of
absent_next p [] e es h = sym (absent_unused_all p es)
absent_next p (k ∷ ks) e es h = rw (fits_some k (and_cut (fits k) (all_of fits ks) h).0)

-- where no argument is used, none is of another kind
wrong_unused_all : (p : Policy) (es : List ℕ) → wrong_kinds p [] es ≡ false
unfolding wrong_kinds
wrong_unused_all p [] = refl
wrong_unused_all p (e ∷ es) = refl

-- no argument is not of another kind
wrong_none : (p : Policy) (ks : List Kinds) → wrong_kinds p ks [] ≡ false
unfolding wrong_kinds
wrong_none p [] = refl
wrong_none p (k ∷ ks) = refl

-- "5 looks only at the kinds in the operation table": of one argument and those behind it
wrong_next : (mem : List ℕ) (ks : List Kinds) (e : ℕ) (es : List ℕ) → all_of fits ks ≡ true
    → wrong_kinds (policy_of mem) ks (e ∷ es) ≡ (is_wrong (policy_of mem) (set_of (get_or ks 0 [])) e || wrong_kinds (policy_of mem) (drop 1 ks) es)
unfolding wrong_kinds is_wrong set_of all_of
wrong_next mem [] e es h = sym (wrong_unused_all (policy_of mem) es)
wrong_next mem (k ∷ ks) e es h =
    let f = (and_cut (fits k) (all_of fits ks) h).0 in
    rw (fits_some k f, fits_member k (kind_of (policy_of mem) e) f (kind_small mem e))

-- a test is three tests, one after another
pub record InThree (all x y z : Bool) : Type 0 where
  pub is : all ≡ (x || (y || z))

-- Three tests: each return.
module _ {all x y z : Bool} (t : InThree all x y z) {r : Bool} (e : r ≡ x) where
  -- the first holds
  first_holds : r ≡ true → true ≡ all
  first_holds h = sym (rw (t.is, sym e ∙ h))

  module _ (h : r ≡ false) {s : Bool} (f : s ≡ y) where
    -- the second holds
    second_holds : s ≡ true → true ≡ all
    second_holds i = sym (rw (t.is, sym e ∙ h, sym f ∙ i))

    -- neither does: the third tells
    third_tells : s ≡ false → {u : Bool} → u ≡ z → u ≡ all
    third_tells i g = sym (rw (t.is, sym e ∙ h, sym f ∙ i) (sym g))

module _ (q : Request) {kinds : List ℕ} (k : kinds ≡ kind_sets q.operation) where
  -- some argument is bad: the first, the second or the third
  pub bad_parts : InThree
      (bad_arguments (kinds_of (request_of q)) (arguments_of (request_of q)))
      (is_bad (get_or kinds 0 0) q.first)
      (is_bad (get_or kinds 1 0) q.second)
      (is_bad (get_or kinds 2 0) q.third)
  unfolding kind_sets
  bad_parts =
      record { is = rw k (three_parts bad_arguments is_bad bad_none bad_next (kinds_of (request_of q)) (kinds_fit q.operation) q.first q.second q.third) }

  -- Some argument is bad: each return.
  module _ {r : Bool} (e : r ≡ is_bad (get_or kinds 0 0) q.first) where
    -- the first is bad
    pub bad_first : r ≡ true → true ≡ bad_arguments (kinds_of (request_of q)) (arguments_of (request_of q))
    bad_first = first_holds bad_parts e

    module _ (h : r ≡ false) {s : Bool} (f : s ≡ is_bad (get_or kinds 1 0) q.second) where
      -- the second is bad
      pub bad_second : s ≡ true → true ≡ bad_arguments (kinds_of (request_of q)) (arguments_of (request_of q))
      bad_second = second_holds bad_parts e h f

      -- neither: the third tells
      pub bad_third : s ≡ false → {t : Bool} → t ≡ is_bad (get_or kinds 2 0) q.third → t ≡ bad_arguments (kinds_of (request_of q)) (arguments_of (request_of q))
      bad_third i g = third_tells bad_parts e h f i g

  module _ (mem : List ℕ) where
    -- some argument is absent: the first, the second or the third
    absent_parts : InThree
        (absent_arguments (policy_of mem) (kinds_of (request_of q)) (arguments_of (request_of q)))
        (is_absent (policy_of mem) (get_or kinds 0 0) q.first)
        (is_absent (policy_of mem) (get_or kinds 1 0) q.second)
        (is_absent (policy_of mem) (get_or kinds 2 0) q.third)
    unfolding kind_sets
    absent_parts =
        record {
          is = rw k (three_parts (absent_arguments (policy_of mem)) (is_absent (policy_of mem)) (absent_none (policy_of mem)) (absent_next (policy_of mem)) (kinds_of (request_of q)) (kinds_fit q.operation) q.first q.second q.third);
        }

    -- Some argument that is used is absent: each return.
    module _ {r : Bool} (e : r ≡ is_absent (policy_of mem) (get_or kinds 0 0) q.first) where
      -- the first is absent
      pub absent_first : r ≡ true → true ≡ absent_arguments (policy_of mem) (kinds_of (request_of q)) (arguments_of (request_of q))
      absent_first = first_holds absent_parts e

      module _ (h : r ≡ false) {s : Bool} (f : s ≡ is_absent (policy_of mem) (get_or kinds 1 0) q.second) where
        -- the second is absent
        pub absent_second : s ≡ true → true ≡ absent_arguments (policy_of mem) (kinds_of (request_of q)) (arguments_of (request_of q))
        absent_second = second_holds absent_parts e h f

        -- neither: the third tells
        pub absent_third : s ≡ false → {t : Bool} → t ≡ is_absent (policy_of mem) (get_or kinds 2 0) q.third
            → t ≡ absent_arguments (policy_of mem) (kinds_of (request_of q)) (arguments_of (request_of q))
        absent_third i g = third_tells absent_parts e h f i g

    -- some argument is of another kind: the first, the second or the third
    wrong_parts : InThree
        (mismatched (policy_of mem) (request_of q))
        (is_wrong (policy_of mem) (get_or kinds 0 0) q.first)
        (is_wrong (policy_of mem) (get_or kinds 1 0) q.second)
        (is_wrong (policy_of mem) (get_or kinds 2 0) q.third)
    unfolding kind_sets mismatched
    wrong_parts =
        record {
          is = rw k (three_parts (wrong_kinds (policy_of mem)) (is_wrong (policy_of mem)) (wrong_none (policy_of mem)) (wrong_next mem) (kinds_of (request_of q)) (kinds_fit q.operation) q.first q.second q.third);
        }

    -- Some argument that is used is of another kind: each return.
    module _ {r : Bool} (e : r ≡ is_wrong (policy_of mem) (get_or kinds 0 0) q.first) where
      -- the first is of another kind
      pub wrong_first : r ≡ true → true ≡ mismatched (policy_of mem) (request_of q)
      wrong_first = first_holds wrong_parts e

      module _ (h : r ≡ false) {s : Bool} (f : s ≡ is_wrong (policy_of mem) (get_or kinds 1 0) q.second) where
        -- the second is of another kind
        pub wrong_second : s ≡ true → true ≡ mismatched (policy_of mem) (request_of q)
        wrong_second = second_holds wrong_parts e h f

        -- neither: the third tells
        pub wrong_third : s ≡ false → {t : Bool} → t ≡ is_wrong (policy_of mem) (get_or kinds 2 0) q.third → t ≡ mismatched (policy_of mem) (request_of q)
        wrong_third i g = third_tells wrong_parts e h f i g
