-- From class to class of the element that is asked over: what the rows say of the next class is so of the classes that the element is within.
-- Assumes nothing.
use mathlib.Core.Path.{◌≡◌, refl, sym, ◌∙◌}
use mathlib.Core.Bool.{Bool, true, false}
use mathlib.Core.List.{List}
use Prim.Native.Nat.{ℕ, ◌≤◌, ◌<◌}
use native.Mathlib.Omega.{arith}
use native.Mathlib.Decide.{dec_lt}
use Rattle.model.specs.Contain.{contained}
use Rattle.model.proofs.Truth.{clash}
use Rattle.table.specs.View.{policy_of}
use Rattle.rule.specs.declared.Asking.{Asking}
use Rattle.rule.specs.Sight.{seen}
use Rattle.rule.specs.Parts.{class_of}
use Rattle.rule.proofs.Sighted.{class_either}
use Rattle.held.specs.Lacking.{sight, Rows}
use Rattle.std.specs.Prelude.{None}
use Rattle.held.specs.Passing.{LeastClass, NextClass}
use Rattle.held.proofs.Classes.{class_low, class_high, passes_class}

-- c is a class that the element is within
abbrev pub is_class : (mem : List ℕ) (q : Asking) (c : ℕ) → Bool
is_class mem q c = class_of (contained (policy_of mem) q.element) (policy_of mem) c

module _ (mem : List ℕ) (q : Asking) {c : ℕ} (e : is_class mem q c ≡ true) where
  -- each is an id, from 1 on
  pub class_from : 1 ≤ c
  class_from = class_low (contained (policy_of mem) q.element) mem (passes_class (contained (policy_of mem) q.element) mem e)

  -- and below 512
  pub class_below : c < 512
  class_below = class_high (contained (policy_of mem) q.element) mem (passes_class (contained (policy_of mem) q.element) mem e)

-- no class of the element is from c on below r
abbrev pub Passed : (mem : List ℕ) (q : Asking) (c r : ℕ) → Type 0
Passed mem q c r = (y : ℕ) → c ≤ y → y < r → is_class mem q y ≡ false

-- r is the least class from c on that the element is within
pub record Walked (mem : List ℕ) (q : Asking) (c r : ℕ) : Type 0 where
  pub from : c ≤ r
  pub early : r < 512
  pub none : Passed mem q c r
  pub its_class : is_class mem q r ≡ true

-- what a row says of a class is so
row_class : {mem rows : List ℕ} {q : Asking} → Rows mem rows false q → (c : ℕ) → class_of (seen rows true q.over) (policy_of mem) c ≡ is_class mem q c
unfolding class_of sight
row_class {mem} {rows} {q} t c = sym (class_either mem rows q.over c) ∙ (rw (t.element c) refl)

module _ {mem rows : List ℕ} {q : Asking} (t : Rows mem rows false q) {c : ℕ} where
  -- the next class of the rows is the next that the element is within
  pub walked : {r : ℕ} → LeastClass mem rows q.over c 512 r → Walked mem q c r
  walked w = record {
    from = w.from;
    early = w.early;
    none = λ y a b. sym (row_class t y) ∙ w.none y a b;
    its_class = sym (row_class t _) ∙ w.its_class;
  }

  -- where they have no more, there is none
  pub walked_end : NextClass mem rows q.over c 512 None → Passed mem q c 512
  walked_end w y a b = sym (row_class t y) ∙ w y a b

-- a class below the next one is below c
pub class_passed : (mem : List ℕ) (q : Asking) {c r : ℕ} → Passed mem q c r → (d : ℕ) → d < r → is_class mem q d ≡ true → d < c
class_passed mem q {c} none d l e = elim (dec_lt d c) [
  | yes k ↦ k
  | no k ↦ absurd (clash e (none d (omega arith) l))
]
