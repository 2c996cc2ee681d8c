-- The range of a prohibition, one law for each answer of the code.
-- Assumes nothing.
use mathlib.Core.Path.{◌≡◌, refl, sym, ap, ◌∙◌}
use mathlib.Core.Bool.{Bool, true, false, not, cond, beq}
use mathlib.Core.List.{List}
use Prim.Native.Nat.{ℕ, ◌+◌, ◌≤◌, ◌<◌}
use native.Mathlib.Omega.{arith}
use borrow.Author.Tests.{eq-eqb, ne_eqb}
use Rattle.model.specs.Lists.{any_of}
use Rattle.model.specs.Policy.{Policy, Prohibition, kind_of}
use Rattle.model.specs.Rule.{disjunctive_range, conjunctive_range, in_range}
use Rattle.table.specs.Layout.{word, prohibition_start}
use Rattle.table.specs.View.{inclusion_count, exclusion_count, prohibition_at}
use Rattle.table.specs.Facts.{AtMost}
use Rattle.rule.specs.Parts.{any_listed}
use Rattle.table.proofs.Loops.{any_none, any_not_yet, any_found, any_end, any_alike, all_unless, none_unless}

-- the row says so of an id, or says not so
abbrev pub says : (E : ℕ → Bool) (so : Bool) → ℕ → Bool
says E so y = cond so (E y) (not (E y))

-- what a test tells
pub tested : (so b : Bool) → beq b so ≡ cond so b (not b)
tested true true = refl
tested true false = refl
tested false true = refl
tested false false = refl

-- the loop over the ids that a prohibition lists
module _ (E : ℕ → Bool) (so : Bool) (mem : List ℕ) (start from : ℕ) where
  -- id k of those
  abbrev id : ℕ → ℕ
  id k = word mem (start + 3 + (from + k))

  -- none before the first
  pub listed_none : any_listed E so mem start from 0 ≡ false
  unfolding any_listed
  listed_none = any_none (says E so) id

  -- nothing else is at the end
  pub listed_end : (n k : ℕ) → k ≤ n → n ≤ k → any_listed E so mem start from k ≡ false → false ≡ any_listed E so mem start from n
  unfolding any_listed
  listed_end n k = any_end (says E so) id n k

  -- id k
  module _ (k : ℕ) {y : ℕ} (listed : y ≡ id k) {b : Bool} (sees : b ≡ E y) where
    -- what the test compares
    compared : says E so (id k) ≡ beq b so
    compared = rw (← listed, ← sees) (same so b)
      where
        same : (s x : Bool) → cond s x (not x) ≡ beq x s
        same true true = refl
        same true false = refl
        same false true = refl
        same false false = refl

    -- it is one
    pub listed_found : (n : ℕ) → k < n → beq b so ≡ true → true ≡ any_listed E so mem start from n
    unfolding any_listed
    listed_found n l h = any_found (says E so) id n k l (compared ∙ h)

    -- it is none
    pub listed_more : any_listed E so mem start from k ≡ false → beq b so ≡ false → any_listed E so mem start from (k + 1) ≡ false
    unfolding any_listed
    listed_more none h = any_not_yet (says E so) id k none (compared ∙ h)

-- the ids of a prohibition as its two lists, and the two forms over them
module _ (E : ℕ → Bool) (mem : List ℕ) (i : ℕ) {n : ℕ} (few : AtMost (inclusion_count mem (prohibition_start i)) 4 n) where
  -- the first ids are the inclusions
  inclusions : (so : Bool) → any_listed E so mem (prohibition_start i) 0 n ≡ any_of (says E so) (prohibition_at mem i).inclusion
  unfolding any_listed
  inclusions so = rw few.is (any_alike (says E so) (inclusion_count mem (prohibition_start i)) (λ k. ap (word mem) (omega arith)))

  -- the next are the exclusions
  exclusions : {m : ℕ} → AtMost (exclusion_count mem (prohibition_start i)) 4 m → (so : Bool)
      → any_listed E so mem (prohibition_start i) n m ≡ any_of (says E so) (prohibition_at mem i).exclusion
  unfolding any_listed
  exclusions few' so = rw (few.is, few'.is) (any_alike (says E so) (exclusion_count mem (prohibition_start i)) (λ k. ap (word mem) (omega arith)))

  module _ {x : Bool} (ex : x ≡ any_listed E true mem (prohibition_start i) 0 n) where
    -- within some inclusion
    pub disjunctive_within : x ≡ true → x ≡ disjunctive_range E (prohibition_at mem i)
    unfolding disjunctive_range
    disjunctive_within h = h ∙ (rw (← inclusions true, ← ex, h) refl)

    -- within none: outside some exclusion or not
    pub disjunctive_outside : x ≡ false → {m : ℕ} → AtMost (exclusion_count mem (prohibition_start i)) 4 m
        → {y : Bool} → y ≡ any_listed E false mem (prohibition_start i) n m → y ≡ disjunctive_range E (prohibition_at mem i)
    unfolding disjunctive_range
    disjunctive_outside h few' ey = rw (← inclusions true, ← ex, h) (ey ∙ exclusions few' false)

  module _ {x : Bool} (ex : x ≡ any_listed E false mem (prohibition_start i) 0 n) where
    -- outside some inclusion
    pub conjunctive_outside : x ≡ true → not x ≡ conjunctive_range E (prohibition_at mem i)
    unfolding conjunctive_range
    conjunctive_outside h = ap not h ∙ (rw (all_unless E (prohibition_at mem i).inclusion, ← inclusions false, ← ex, h) refl)

    -- within each: within some exclusion or not
    pub conjunctive_within : x ≡ false → {m : ℕ} → AtMost (exclusion_count mem (prohibition_start i)) 4 m
        → {y : Bool} → y ≡ any_listed E true mem (prohibition_start i) n m → not y ≡ conjunctive_range E (prohibition_at mem i)
    unfolding conjunctive_range
    conjunctive_within h few' ey =
        rw (all_unless E (prohibition_at mem i).inclusion, ← inclusions false, ← ex, h, none_unless E (prohibition_at mem i).exclusion)
        (ap not (ey ∙ exclusions few' true))

-- the range, by the form
module _ (E : ℕ → Bool) (p : Policy) (e : ℕ) (b : Prohibition) {k : ℕ} (kind : k ≡ kind_of p e) where
  -- a class is in no range
  pub range_class : k ≡ 5 → false ≡ in_range E p e b
  unfolding in_range
  range_class h = rw (← kind, eq-eqb k 5 h)

  module _ (h : k ≡ 5 → ⊥) {f : ℕ} (form : f ≡ b.form) where
    -- the disjunctive form
    pub range_disjunctive : f ≡ 0 → {x : Bool} → x ≡ disjunctive_range E b → x ≡ in_range E p e b
    unfolding in_range
    range_disjunctive hf ex = rw (← kind, ne_eqb k 5 h, eq-eqb b.form 0 (sym form ∙ hf)) ex

    -- the conjunctive form
    pub range_conjunctive : (f ≡ 0 → ⊥) → {x : Bool} → x ≡ conjunctive_range E b → x ≡ in_range E p e b
    unfolding in_range
    range_conjunctive hf ex = rw (← kind, ne_eqb k 5 h, ne_eqb b.form 0 (λ z. hf (form ∙ z))) ex
