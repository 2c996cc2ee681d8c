-- Two containments that say the same wherever the rule looks give the same verdict and the same rows.
-- Assumes nothing.
use mathlib.Core.Path.{◌≡◌, refl, ap, ap₂}
use mathlib.Core.Bool.{Bool, not, cond, ◌&&◌}
use mathlib.Core.List.{List, [], ◌∷◌, ◌++◌, map}
use mathlib.Core.Logic.{◌⊎◌, inl, inr}
use Prim.Native.Nat.{ℕ, zero, suc, pred, ◌≤◌}
use native.Mathlib.Omega.{arith}
use borrow.Author.Tests.{eqb-true, leb-true}
use lib.Dec.{eqb, leb}
use lib.ListN.{length, take, get_or}
use Rattle.model.specs.Lists.{In, first, later, all_of, those, one}
use Rattle.model.specs.Policy.{Association, Prohibition, Policy, by_user, by_process, by_attribute, user_of}
use Rattle.model.specs.Rule.{classes, classes_of, gives, given_in, held_by, disjunctive_range, conjunctive_range, in_range, is_subject, restricts, restricted_by, through}
use Rattle.model.specs.Sound.{listed}
use Rattle.model.specs.Request.{no_operation, operations, operation_of, Request, arguments_of, kinds_of, Alternative, alternatives_of, Asked, asked, asked_of, Verdict, grant, deny, permitted, satisfied, lowest_satisfied, verdict}
use Rattle.model.specs.Explain.{joined, authorizing, grant_row, grant_rows, lacking, through_sort, cause_of, failing, deny_row, first_failing, deny_rows, rows_of, rows}
use Rattle.model.proofs.Truth.{any_alike, all_alike, those_alike, map_alike, and_alike, none_in, in_left, in_right, in_append, map_in, those_in, all_in}

-- functions that agree on each of a list, and their results joined
module _ {A B : Type 0} where
  joined_alike : {f g : A → List B} (l : List A) → ((a : A) → In a l → f a ≡ g a) → joined f l ≡ joined g l
  unfolding joined
  joined_alike [] h = refl
  joined_alike (a ∷ l) h = ap₂ ◌++◌ (h a first) (joined_alike l (λ b i. h b (later i)))

-- two containments say the same wherever the rule looks, each by its row of the user, its row of the element, and itself between a target and a class:
pub record AlikeRows (U U' E E' : ℕ → Bool) (T T' : ℕ → ℕ → Bool) (p : Policy) : Type 0 where
  -- of the user and each association's attribute
  pub attributes : (a : Association) → In a p.associations → U a.attribute ≡ U' a.attribute
  -- of the user and each attribute that is a prohibition's subject
  pub subjects : (b : Prohibition) → In b p.prohibitions → b.sort ≡ by_attribute → U b.subject ≡ U' b.subject
  -- of the element and each class
  pub of_class : (c : ℕ) → In c (classes p) → E c ≡ E' c
  -- of the element and each association's target
  pub of_target : (a : Association) → In a p.associations → E a.target ≡ E' a.target
  -- of the element and each attribute that a prohibition lists
  pub of_listed : (b : Prohibition) → In b p.prohibitions → (y : ℕ) → In y (listed b) → E y ≡ E' y
  -- of each association's target and each class
  pub target_class : (a : Association) → In a p.associations → (c : ℕ) → In c (classes p) → T a.target c ≡ T' a.target c

-- a class of the element is a class
class_in : (E : ℕ → Bool) (p : Policy) {c : ℕ} → In c (classes_of E p) → In c (classes p)
unfolding classes_of
class_in E p i = those_in E (classes p) i

-- The rule, by rows that say the same.
module _ {U U' E E' : ℕ → Bool} {T T' : ℕ → ℕ → Bool} {p : Policy} (h : AlikeRows U U' E E' T T' p) where
  -- the same classes of the element
  pub classes_alike : classes_of E p ≡ classes_of E' p
  unfolding classes_of
  classes_alike = those_alike (classes p) h.of_class

  -- the same associations give a right in a class
  pub gives_alike : (r c : ℕ) → In c (classes p) → (a : Association) → In a p.associations → gives U E T r c a ≡ gives U' E' T' r c a
  unfolding gives
  gives_alike r c j a i = rw (h.attributes a i, h.of_target a i, h.target_class a i c j)

  -- the same rights are given in a class
  pub given_alike : (r c : ℕ) → In c (classes p) → given_in U E T p r c ≡ given_in U' E' T' p r c
  unfolding given_in
  given_alike r c j = any_alike p.associations (gives_alike r c j)

  -- the same rights are held
  pub held_alike : (r : ℕ) → held_by U E T p r ≡ held_by U' E' T' p r
  unfolding held_by
  held_alike r = rw (classes_alike, all_alike (classes_of E' p) (λ c j. given_alike r c (class_in E' p j)))

  range_alike : (e : ℕ) (b : Prohibition) → In b p.prohibitions → in_range E p e b ≡ in_range E' p e b
  unfolding in_range disjunctive_range conjunctive_range
  range_alike e b i = rw (any_alike b.inclusion inc, any_alike b.exclusion exc, all_alike b.inclusion inc, all_alike b.exclusion exc)
    where
      inc : (y : ℕ) → In y b.inclusion → E y ≡ E' y
      inc y j = h.of_listed b i y (in_left b.exclusion j)

      exc : (y : ℕ) → In y b.exclusion → not (E y) ≡ not (E' y)
      exc y j = ap not (h.of_listed b i y (in_right b.inclusion j))

  subject_alike : (process u : ℕ) (b : Prohibition) → In b p.prohibitions → is_subject U process u b ≡ is_subject U' process u b
  unfolding is_subject
  subject_alike process u b i = rw (and_alike (eqb b.sort by_attribute) (λ s. h.subjects b i (eqb-true b.sort by_attribute s)))

  module _ (process u r e : ℕ) where
    -- the same prohibitions restrict
    pub restricts_alike : (b : Prohibition) → In b p.prohibitions → restricts U E p process u r e b ≡ restricts U' E' p process u r e b
    unfolding restricts
    restricts_alike b i = rw (range_alike e b i, subject_alike process u b i)

    -- the same rights are restricted
    pub restricted_alike : restricted_by U E p process u r e ≡ restricted_by U' E' p process u r e
    unfolding restricted_by
    restricted_alike = any_alike p.prohibitions restricts_alike

    -- through the same subjects
    pub through_alike : (s : ℕ) → through U E p process u r e s ≡ through U' E' p process u r e s
    unfolding through
    through_alike s = ap (map (λ b. b.subject)) (those_alike p.prohibitions (λ b i. ap (◌&&◌ (eqb b.sort s)) (restricts_alike b i)))

-- what is read from a list stands in it, or is what is read where it ends
at_in : {A : Type 0} (l : List A) (n : ℕ) (d : A) → In (get_or l n d) (l ++ one d)
at_in [] n d = first
at_in (a ∷ l) zero d = first
at_in (a ∷ l) (suc n) d = later (at_in l n d)

-- an alternative has a right set for no more arguments than are used
alternative_fits : (q : Request) {a : Alternative} → In a (alternatives_of q ++ one []) → length a ≤ length (kinds_of q)
unfolding all_of operation_of operations
alternative_fits q i =
    leb-true _ _
    (all_in (λ a. leb (length a) (length (kinds_of q)))
    (all_in (λ o. all_of (λ a. leb (length a) (length o.arguments)) (o.alternatives ++ one [])) refl (at_in (no_operation ∷ operations) q.operation no_operation))
    i)

-- an alternative asks rights over used arguments only
asked_used : (j n : ℕ) (alternative : Alternative) (es : List ℕ) {a : Asked} → length alternative ≤ n → In a (asked j alternative es)
    → In a.element (take n es)
unfolding asked
asked_used j n [] es h i = absurd (none_in i)
asked_used j n (rs ∷ more) [] h i = absurd (none_in i)
asked_used j zero (rs ∷ more) (e ∷ es) h i = absurd (omega arith)
asked_used j (suc n) (rs ∷ more) (e ∷ es) {a} h i = go (in_append (map here rs) i) (asked_used (suc j) n more es (omega arith))
  where
    here : ℕ → Asked
    here r = record { argument = j; element = e; right = r }

    go : In a (map here rs) ⊎ In a (asked (suc j) more es) → (In a (asked (suc j) more es) → In a.element (take n es))
        → In a.element (e ∷ take n es)
    go (inl k) more = let m = map_in here rs k in let s : e ≡ a.element = ap (λ b. b.element) m.is in rw s first
    go (inr k) more = later (more k)

-- the arguments that the operation uses
abbrev pub used_of : Request → List ℕ
used_of q = take (length (kinds_of q)) (arguments_of q)

-- two containments say the same wherever the rule looks for a request: by the user of its process and each argument that is used
abbrev pub Alike : (W W' : ℕ → ℕ → Bool) → Policy → Request → Type 0
Alike W W' p q = let u = user_of p q.process in (e : ℕ) → In e (used_of q) → AlikeRows (W u) (W' u) (W e) (W' e) W W' p

-- The request, by containments that say the same.
module _ {W W' : ℕ → ℕ → Bool} {p : Policy} (q : Request) (h : Alike W W' p q) where
  -- what is asked over an argument that is used
  module _ (a : Asked) (i : In a.element (used_of q)) where
    permitted_alike : permitted W p q a ≡ permitted W' p q a
    unfolding permitted
    permitted_alike = rw (held_alike (h _ i) a.right, restricted_alike (h _ i) q.process (user_of p q.process) a.right a.element)

    grant_row_alike : (k c : ℕ) → In c (classes p) → grant_row W p q k a c ≡ grant_row W' p q k a c
    unfolding grant_row authorizing
    grant_row_alike k c j = rw (those_alike p.associations (gives_alike (h _ i) a.right c j))

    class_rows_alike : (k : ℕ) → map (grant_row W p q k a) (classes_of (W a.element) p) ≡ map (grant_row W' p q k a) (classes_of (W' a.element) p)
    class_rows_alike k =
        rw (classes_alike (h _ i)) (map_alike (classes_of (W' a.element) p) (λ c j. grant_row_alike k c (class_in (W' a.element) p j)))

    lacking_alike : lacking W p q a ≡ lacking W' p q a
    unfolding lacking
    lacking_alike =
        rw (classes_alike (h _ i))
        (those_alike (classes_of (W' a.element) p) (λ c j. ap not (given_alike (h _ i) a.right c (class_in (W' a.element) p j))))

    through_sort_alike : (s : ℕ) → through_sort W p q a s ≡ through_sort W' p q a s
    unfolding through_sort
    through_sort_alike s = through_alike (h _ i) q.process (user_of p q.process) a.right a.element s

    deny_row_alike : (k : ℕ) → deny_row W p q k a ≡ deny_row W' p q k a
    unfolding deny_row cause_of
    deny_row_alike k =
        rw (
          held_alike (h _ i) a.right,
          lacking_alike,
          through_sort_alike by_user,
          through_sort_alike by_process,
          through_sort_alike by_attribute,
        )

  first_failing_alike : (k : ℕ) (l : List Asked) → ((a : Asked) → In a l → In a.element (used_of q)) → first_failing W p q k l ≡ first_failing W' p q k l
  unfolding first_failing
  first_failing_alike k [] u = refl
  first_failing_alike k (a ∷ l) u = ap one (deny_row_alike a (u a first) k)

  -- an alternative of the operation, or none
  module _ (alternative : Alternative) (i : In alternative (alternatives_of q ++ one [])) where
    asks_used : (a : Asked) → In a (asked_of alternative q) → In a.element (used_of q)
    asks_used a j = asked_used 1 (length (kinds_of q)) alternative (arguments_of q) (alternative_fits q i) j

    satisfied_alike : satisfied W p q alternative ≡ satisfied W' p q alternative
    unfolding satisfied
    satisfied_alike = all_alike (asked_of alternative q) (λ a j. permitted_alike a (asks_used a j))

    grant_rows_alike : (k : ℕ) → grant_rows W p q k alternative ≡ grant_rows W' p q k alternative
    unfolding grant_rows
    grant_rows_alike k = joined_alike (asked_of alternative q) (λ a j. class_rows_alike a (asks_used a j) k)

    failing_alike : (k : ℕ) → first_failing W p q k (failing W p q alternative) ≡ first_failing W' p q k (failing W' p q alternative)
    unfolding failing
    failing_alike k =
        rw (those_alike (asked_of alternative q) (λ a j. ap not (permitted_alike a (asks_used a j))))
        (first_failing_alike k (those (λ a. not (permitted W' p q a)) (asked_of alternative q)) (λ a j. asks_used a (those_in _ _ j)))

  lowest_alike : (k : ℕ) (l : List Alternative) → ((a : Alternative) → In a l → In a (alternatives_of q ++ one [])) → lowest_satisfied W p q k l ≡ lowest_satisfied W' p q k l
  unfolding lowest_satisfied
  lowest_alike k [] u = refl
  lowest_alike k (a ∷ l) u = ap₂ (λ t v. cond t (grant k) v) (satisfied_alike a (u a first)) (lowest_alike (suc k) l (λ b i. u b (later i)))

  deny_rows_alike : (k : ℕ) (l : List Alternative) → ((a : Alternative) → In a l → In a (alternatives_of q ++ one [])) → deny_rows W p q k l ≡ deny_rows W' p q k l
  unfolding deny_rows
  deny_rows_alike k [] u = refl
  deny_rows_alike k (a ∷ l) u = ap₂ ◌++◌ (failing_alike a (u a first) k) (deny_rows_alike (suc k) l (λ b i. u b (later i)))

  rows_of_alike : (v : Verdict) → rows_of W p q v ≡ rows_of W' p q v
  unfolding rows_of
  rows_of_alike (grant k) = grant_rows_alike (get_or (alternatives_of q) (pred k) []) (at_in (alternatives_of q) (pred k) []) k
  rows_of_alike deny = deny_rows_alike 1 (alternatives_of q) (λ a i. in_left (one []) i)

  -- the same verdict
  pub verdict_alike : verdict W p q ≡ verdict W' p q
  unfolding verdict
  verdict_alike = lowest_alike 1 (alternatives_of q) (λ a i. in_left (one []) i)

  -- and the same rows
  pub rows_alike : rows W p q ≡ rows W' p q
  unfolding rows
  rows_alike = rw verdict_alike (rows_of_alike (verdict W' p q))
