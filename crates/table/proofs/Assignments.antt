-- The assignments: their order, and the words that say what is assigned to what.
-- Assumes nothing.
use mathlib.Core.Path.{◌≡◌, refl, sym, ap, subst, ◌∙◌}
use mathlib.Core.Bool.{Bool, true, false, ◌&&◌}
use mathlib.Core.List.{List}
use Prim.Native.Nat.{ℕ, ◌+◌, ◌*◌, ◌/◌, ◌%◌, ◌≤◌, ◌<◌, ◌-◌}
use native.Mathlib.Omega.{arith}
use native.Mathlib.Decide.{dec_lt}
use borrow.Author.Tests.{eq-eqb, eqb-true, ltb-true, ltb-false}
use lib.Dec.{eqb, ltb}
use lib.ListN.{length, get_or}
use Rattle.std.specs.List.{between, IsAnyAnswer}
use Rattle.std.specs.List.Sorted.{IsPartitionedBy, IsPartitionPoint}
use Rattle.std.proofs.lemmas.List.Edits.{length-between, get_or-between}
use Rattle.std.proofs.lemmas.List.Sorted.{IsPartitionedBy-ltb, IsNonDecreasingBy-from_default}
use Rattle.model.specs.Lists.{In, any_of}
use Rattle.model.specs.Policy.{Assignment, is_assigned}
use Rattle.model.specs.Contain.{Assigned}
use Rattle.model.proofs.Truth.{and_left, and_right, and_join, clash, fails_when, Found, any_in, any_found}
use Rattle.table.specs.Layout.{word, assignments_from, assignment_count, assignment_word}
use Rattle.table.specs.View.{assignment_at, assignments_of, policy_of}
use Rattle.table.specs.Facts.{Table, FirstOf, AmongFirst}
use Rattle.table.proofs.Tabled.{in_tabulate, tabulate_in}

-- no later word is below an earlier one
pub rising_le : {mem : List ℕ} → Table mem → (i j : ℕ) → i ≤ j → j < assignment_count mem → assignment_word mem i ≤ assignment_word mem j
rising_le {mem} t i j h l = elim (dec_lt i j) [
  | yes b ↦ omega (arith, t.rising i j b l)
  | no b ↦ let e : i ≡ j = omega arith in omega (arith, ap (assignment_word mem) e)
]

-- The words of the assignments from a on, below b.
module _ {mem : List ℕ} (t : Table mem) (a b : ℕ) (inside : b ≤ assignment_count mem) where
  abbrev part : List ℕ
  part = between (assignments_from + a) (assignments_from + b) mem

  -- so many are they
  part_long : length part ≡ b - a
  part_long = length-between mem (assignments_from + a) (assignments_from + b) (omega (arith, t.size, t.few_assignments)) ∙ omega arith

  -- word k of them
  part_word : (k : ℕ) → a + k < b → get_or part k 0 ≡ assignment_word mem (a + k)
  part_word k h = get_or-between mem (assignments_from + a) (assignments_from + b) k 0 (omega arith) ∙ (let e : assignments_from + a + k ≡ assignments_from + (a + k) = omega arith in ap (word mem) e)

-- Where the words below a key end, as a search by halving finds it.
module _ {mem : List ℕ} (t : Table mem) (key : ℕ) where
  abbrev all : List ℕ
  all = part t 0 (assignment_count mem) (omega arith)

  all_long : length all ≡ assignment_count mem
  all_long = part_long t 0 (assignment_count mem) (omega arith) ∙ omega arith

  all_word : (k : ℕ) → k < assignment_count mem → get_or all k 0 ≡ assignment_word mem k
  all_word k h = part_word t 0 (assignment_count mem) (omega arith) k (omega arith) ∙ (let e : 0 + k ≡ k = omega arith in ap (assignment_word mem) e)

  -- no word below the key stands behind one that is not
  pub parted : IsPartitionedBy (λ w. ltb w key) (between assignments_from (assignments_from + assignment_count mem) mem)
  parted =
      IsPartitionedBy-ltb (λ w. w) all key (IsNonDecreasingBy-from_default (λ w. w) all 0 (λ i j h l.
      omega (arith, all_long, all_word i (omega (arith, all_long)), all_word j (omega (arith, all_long)), rising_le t i j h (omega (arith, all_long)))))

  -- the words before the place are below the key, those from it on are not
  pub first_found : (x : ℕ) → key ≡ x * 512 → {r : ℕ} → r ≤ length all
      → IsPartitionPoint (λ w. ltb w key ≡ true) (λ w. ltb w key ≡ false) (between assignments_from (assignments_from + assignment_count mem) mem) r → FirstOf mem x r
  first_found x e {r} l p = record {
    inside = omega (arith, all_long);
    before = λ i h. omega (arith, all_long, all_word i (omega (arith, all_long)), ltb-true (get_or all i 0) key (p.0 i 0 (omega arith) h));
    from = λ i h h'. omega (arith, all_word i h', ltb-false (get_or all i 0) key (p.1 i 0 h (omega (arith, all_long))));
  }

-- an assignment of the policy is one of the words
pub assigned_word : (mem : List ℕ) {x y : ℕ} → Assigned (assignments_of mem) x y → AmongFirst mem (assignment_count mem) x y
unfolding assignments_of
assigned_word mem i =
    let t = tabulate_in (assignment_count mem) (assignment_at mem) i in
    let c = ap (λ (a : Assignment). a.child) t.is in
    let d = ap (λ (a : Assignment). a.container) t.is in
    record { at = t.at; early = t.early; is = omega (arith, c, d); small = omega (arith, d) }

-- and the other way
pub word_assigned : {mem : List ℕ} {x y : ℕ} → AmongFirst mem (assignment_count mem) x y → Assigned (assignments_of mem) x y
unfolding assignments_of
word_assigned {mem} {x} {y} a =
    let c : assignment_word mem a.at / 512 ≡ x = omega (arith, a.is, a.small) in
    let d : assignment_word mem a.at % 512 ≡ y = omega (arith, a.is, a.small) in
    subst (λ (b : Assignment). In b (assignments_of mem)) (rw (c, d) refl) (in_tabulate (assignment_count mem) (assignment_at mem) a.at a.early)

-- whether one of the words of x is the one that assigns it to y
pub assigned_between : {mem : List ℕ} → Table mem → (x y : ℕ) → y < 512 → {a e : ℕ} → FirstOf mem x a → FirstOf mem (x + 1) e → (r : Bool)
    → IsAnyAnswer (λ w b. eqb w (x * 512 + y) ≡ b) (between (assignments_from + a) (assignments_from + e) mem) r → r ≡ is_assigned (policy_of mem) x y
unfolding is_assigned policy_of
assigned_between {mem} t x y s {a} {e} f g true (k, h, w) =
    let l : a + k < e = omega (arith, part_long t a e g.inside) in
    let i : assignment_word mem (a + k) ≡ x * 512 + y = sym (part_word t a e g.inside k l) ∙ eqb-true _ _ (w 0) in
    sym (any_in (λ b. eqb x b.child && eqb y b.container) (word_assigned {mem = mem} {x = x} {y = y} (record { at = a + k; early = omega (arith, g.inside); is = i; small = s }))
    (and_join (eqb x x) (eqb y y) (eq-eqb x x refl) (eq-eqb y y refl)))
assigned_between {mem} t x y s {a} {e} f g false w =
    sym (fails_when (any_of (λ b. eqb x b.child && eqb y b.container) (assignments_of mem)) (λ q. nowhere (any_found (λ b. eqb x b.child && eqb y b.container) (assignments_of mem) q)))
  where
    nowhere : Found (λ (b : Assignment). eqb x b.child && eqb y b.container) (assignments_of mem) → ⊥
    nowhere u =
        let c : x ≡ u.it.child = eqb-true x u.it.child (and_left (eqb x u.it.child) (eqb y u.it.container) u.is) in
        let d : y ≡ u.it.container = eqb-true y u.it.container (and_right (eqb x u.it.child) (eqb y u.it.container) u.is) in
        let n = assigned_word mem {x = x} {y = y} (subst (λ (b : Assignment). In b (assignments_of mem)) (rw (c, d) refl) u.there) in
        let above : a ≤ n.at = elim (dec_lt n.at a) [ yes b ↦ absurd (omega (arith, f.before n.at b, n.is)) | no b ↦ omega arith ] in
        let below : n.at < e = elim (dec_lt n.at e) [ yes b ↦ b | no b ↦ absurd (omega (arith, g.from n.at (omega arith) n.early, n.is)) ] in
        let k : a + (n.at - a) ≡ n.at = omega arith in
        let i : get_or (part t a e g.inside) (n.at - a) 0 ≡ x * 512 + y = part_word t a e g.inside (n.at - a) (omega arith) ∙ ap (assignment_word mem) k ∙ n.is in
        clash (eq-eqb _ _ i) (w (n.at - a) 0 (omega arith) (omega (arith, part_long t a e g.inside)))
