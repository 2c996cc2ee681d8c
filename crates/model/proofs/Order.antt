-- The order of fields "compared as written", and that the fields of a record tell the record.
-- Assumes nothing.
use mathlib.Core.Path.{◌≡◌, refl, sym, ap, ◌∙◌}
use mathlib.Core.Bool.{true, false, ◌&&◌, and-false, or-false}
use mathlib.Core.List.{List, [], ◌∷◌, ◌++◌}
use mathlib.Core.Logic.{◌⊎◌, inl, inr}
use Prim.Native.Nat.{ℕ, ◌<◌, ◌≤◌}
use native.Mathlib.Omega.{arith}
use native.Mathlib.Decide.{dec_lt}
use borrow.Author.Tests.{eqb-true, eq-eqb, ltb-true, ltb-false, lt-ltb, le-ltb}
use lib.Dec.{eqb, ltb}
use lib.ListN.{length, get_or, take, drop}
use lib.Seq.{take_at, drop_at, take-append_seam, drop-append_seam}
use Rattle.model.specs.Lists.{before, same}
use Rattle.model.specs.Policy.{Element, Assignment, Association, Prohibition, Process, element_key, element_fields, assignment_fields, association_fields, prohibition_fields, process_key, process_fields}
use Rattle.model.proofs.Truth.{clash, and_cut, and_join, or_cut, or_left, or_right, Tested, passes, fails, tested}

-- the same fields are equal fields
pub same_equal : (a b : List ℕ) → same a b ≡ true → a ≡ b
unfolding same
same_equal [] [] e = refl
same_equal [] (y ∷ b) e = absurd (clash e refl)
same_equal (x ∷ a) [] e = absurd (clash e refl)
same_equal (x ∷ a) (y ∷ b) e =
    let c = and_cut (eqb x y) (same a b) e in
    let q : x ≡ y = eqb-true x y c.0 in
    let r : a ≡ b = same_equal a b c.1 in
    cc

-- fields are the same as themselves
pub same_self : (a : List ℕ) → same a a ≡ true
unfolding same
same_self [] = refl
same_self (x ∷ a) = and_join (eqb x x) (same a a) (eq-eqb x x refl) (same_self a)

-- equal fields are the same
pub equal_same : (a b : List ℕ) → a ≡ b → same a b ≡ true
equal_same a b e = rw e (same_self b)

-- other fields are not the same
pub other_same : (a b : List ℕ) → (a ≡ b → ⊥) → same a b ≡ false
other_same a b d = elim (tested (same a b)) [
  | passes h ↦ absurd (d (same_equal a b h))
  | fails h ↦ h
]

-- the first field decides
pub first_lower : (x y : ℕ) (a b : List ℕ) → x < y → before (x ∷ a) (y ∷ b) ≡ true
unfolding before
first_lower x y a b h = or_left (ltb x y) (eqb x y && before a b) (lt-ltb x y h)

-- where the first fields are equal the rest decides
pub rest_lower : (x y : ℕ) (a b : List ℕ) → x ≡ y → before a b ≡ true → before (x ∷ a) (y ∷ b) ≡ true
unfolding before
rest_lower x y a b q h = or_right (ltb x y) (eqb x y && before a b) (and_join (eqb x y) (before a b) (eq-eqb x y q) h)

-- one or the other decided
pub which_lower : (x y : ℕ) (a b : List ℕ) → before (x ∷ a) (y ∷ b) ≡ true → (x < y) ⊎ ((x ≡ y) × (before a b ≡ true))
unfolding before
which_lower x y a b e = elim (or_cut (ltb x y) (eqb x y && before a b) e) [
  | inl h ↦ inl (ltb-true x y h)
  | inr h ↦ let c = and_cut (eqb x y) (before a b) h in inr (eqb-true x y c.0, c.1)
]

-- nothing is before itself
pub before_self : (a : List ℕ) → before a a ≡ false
unfolding before
before_self [] = refl
before_self (x ∷ a) =
    let h : x ≤ x = omega arith in
    rw (le-ltb x x h, before_self a) (and-false (eqb x x))

-- what is before what is before is before
pub before_trans : (a b c : List ℕ) → before a b ≡ true → before b c ≡ true → before a c ≡ true
unfolding before
before_trans [] [] c e f = absurd (clash e refl)
before_trans [] (y ∷ b) [] e f = absurd (clash f refl)
before_trans [] (y ∷ b) (z ∷ c) e f = refl
before_trans (x ∷ a) [] c e f = absurd (clash e refl)
before_trans (x ∷ a) (y ∷ b) [] e f = absurd (clash f refl)
before_trans (x ∷ a) (y ∷ b) (z ∷ c) e f = go (which_lower x y a b e) (which_lower y z b c f) (before_trans a b c)
  where
    go :
        (x < y) ⊎ ((x ≡ y) × (before a b ≡ true)) → (y < z) ⊎ ((y ≡ z) × (before b c ≡ true))
        → (before a b ≡ true → before b c ≡ true → before a c ≡ true) → before (x ∷ a) (z ∷ c) ≡ true
    go (inl h) (inl k) t = first_lower x z a c (omega arith)
    go (inl h) (inr k) t = first_lower x z a c (omega arith)
    go (inr h) (inl k) t = first_lower x z a c (omega arith)
    go (inr h) (inr k) t = rest_lower x z a c (h.0 ∙ k.0) (t h.1 k.1)

-- of two lists of fields one is before the other, or they are the same
pub data Compared (a b : List ℕ) : Type 0 where
  lower : before a b ≡ true → Compared a b
  alike : same a b ≡ true → Compared a b
  higher : before b a ≡ true → Compared a b

-- whichever it is
pub compared : (a b : List ℕ) → Compared a b
unfolding before same
compared [] [] = alike refl
compared [] (y ∷ b) = lower refl
compared (x ∷ a) [] = higher refl
compared (x ∷ a) (y ∷ b) = go (tested (ltb x y)) (tested (ltb y x)) (compared a b)
  where
    equal : ltb x y ≡ false → ltb y x ≡ false → x ≡ y
    equal h k =
        let h' : y ≤ x = ltb-false x y h in
        let k' : x ≤ y = ltb-false y x k in
        omega arith

    go : Tested (ltb x y) → Tested (ltb y x) → Compared a b → Compared (x ∷ a) (y ∷ b)
    go (passes h) k r = lower (first_lower x y a b (ltb-true x y h))
    go (fails h) (passes k) r = higher (first_lower y x b a (ltb-true y x k))
    go (fails h) (fails k) (lower r) = lower (rest_lower x y a b (equal h k) r)
    go (fails h) (fails k) (alike r) = alike (and_join (eqb x y) (same a b) (eq-eqb x y (equal h k)) r)
    go (fails h) (fails k) (higher r) = higher (rest_lower y x b a (sym (equal h k)) r)

-- what is neither the same nor before is behind
pub else_higher : (a b : List ℕ) → same a b ≡ false → before a b ≡ false → before b a ≡ true
else_higher a b s e = elim (compared a b) [
  | lower h ↦ absurd (clash h e)
  | alike h ↦ absurd (clash h s)
  | higher h ↦ h
]

-- what stands between two is behind the one or before the other
pub before_between : (x y z : List ℕ) → before x z ≡ true → (before x y ≡ true) ⊎ (before y z ≡ true)
unfolding before
before_between [] y [] e = absurd (clash e refl)
before_between (a ∷ x) y [] e = absurd (clash e refl)
before_between x [] (c ∷ z) e = inr refl
before_between [] (b ∷ y) (c ∷ z) e = inl refl
before_between (a ∷ x) (b ∷ y) (c ∷ z) e = go (which_lower a c x z e) (before_between x y z)
  where
    go : (a < c) ⊎ ((a ≡ c) × (before x z ≡ true)) → (before x z ≡ true → (before x y ≡ true) ⊎ (before y z ≡ true))
        → (before (a ∷ x) (b ∷ y) ≡ true) ⊎ (before (b ∷ y) (c ∷ z) ≡ true)
    go (inl l) k = elim (dec_lt a b) [ yes h ↦ inl (first_lower a b x y h) | no h ↦ inr (first_lower b c y z (omega arith)) ]
    go (inr l) k = elim (dec_lt a b) [
      | yes h ↦ inl (first_lower a b x y h)
      | no h ↦ elim (dec_lt b a) [
        | yes g ↦ inr (first_lower b c y z (omega arith))
        | no g ↦ elim (k l.1) [ inl m ↦ inl (rest_lower a b x y (omega arith) m) | inr m ↦ inr (rest_lower b c y z (omega arith) m) ]
      ]
    ]

-- what is before another stays so, whatever fields are added
pub before_append : (x y u v : List ℕ) → length x ≡ length y → before x y ≡ true → before (x ++ u) (y ++ v) ≡ true
unfolding before
before_append [] [] u v e h = absurd (clash h refl)
before_append [] (b ∷ y) u v e h = absurd (omega arith)
before_append (a ∷ x) [] u v e h = absurd (omega arith)
before_append (a ∷ x) (b ∷ y) u v e h = go (which_lower a b x y h) (before_append x y u v (omega arith))
  where
    go : (a < b) ⊎ ((a ≡ b) × (before x y ≡ true)) → (before x y ≡ true → before (x ++ u) (y ++ v) ≡ true) → before (a ∷ x ++ u) (b ∷ y ++ v) ≡ true
    go (inl l) k = first_lower a b (x ++ u) (y ++ v) l
    go (inr l) k = rest_lower a b (x ++ u) (y ++ v) l.0 (k l.1)

-- a single field
pub before_one : (a b : ℕ) → before (a ∷ []) (b ∷ []) ≡ ltb a b
unfolding before
before_one a b = rw (and-false (eqb a b)) (or-false (ltb a b))

-- an element's key tells its id
pub element_key_lem : (e f : Element) → element_key e ≡ element_key f → e.id ≡ f.id
element_key_lem e f q = ap (λ l. get_or l 0 0) q

-- a process's key tells its id
pub process_key_lem : (q r : Process) → process_key q ≡ process_key r → q.id ≡ r.id
process_key_lem q r e = ap (λ l. get_or l 0 0) e

-- elements with the same fields are equal
pub element_fields_lem : (e f : Element) → element_fields e ≡ element_fields f → e ≡ f
element_fields_lem e f q = λ i. record { id = get_or (q i) 0 0; kind = get_or (q i) 1 0 }

-- assignments with the same fields are equal
pub assignment_fields_lem : (a b : Assignment) → assignment_fields a ≡ assignment_fields b → a ≡ b
assignment_fields_lem a b q = λ i. record { child = get_or (q i) 0 0; container = get_or (q i) 1 0 }

-- associations with the same fields are equal
pub association_fields_lem : (a b : Association) → association_fields a ≡ association_fields b → a ≡ b
association_fields_lem a b q = λ i. record { attribute = get_or (q i) 0 0; target = get_or (q i) 1 0; rights = get_or (q i) 2 0 }

-- processes with the same fields are equal
pub process_fields_lem : (q r : Process) → process_fields q ≡ process_fields r → q ≡ r
process_fields_lem q r e = λ i. record { id = get_or (e i) 0 0; owner = get_or (e i) 1 0 }

-- the length of the first of two joined lists splits them
pub split_joined : (a b c d : List ℕ) → length a ≡ length c → a ++ b ≡ c ++ d → (a ≡ c) × (b ≡ d)
split_joined a b c d n e = (
  sym (take_at a b (length c) n) ∙ ap (take (length c)) e ∙ take-append_seam c d,
  sym (drop_at a b (length c) n) ∙ ap (drop (length c)) e ∙ drop-append_seam c d,
)

-- prohibitions with the same fields are equal: the counts split the ids
pub prohibition_fields_lem : (a b : Prohibition) → prohibition_fields a ≡ prohibition_fields b → a ≡ b
prohibition_fields_lem a b q =
    let s = split_joined a.inclusion a.exclusion b.inclusion b.exclusion (ap (λ l. get_or l 4 0) q) (ap (drop 6) q) in
    λ i. record { sort = get_or (q i) 0 0; subject = get_or (q i) 1 0; form = get_or (q i) 2 0; rights = get_or (q i) 3 0; inclusion = s.0 i; exclusion = s.1 i }
