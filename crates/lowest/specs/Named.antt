-- The lowest association that authorizes a right, for each class at once. An association is named by its place, counted from 1; 0 names none.
-- Assumes nothing.
use Rattle.std.specs.Prelude.{◌≡◌, Bool, true, cond, List, ℕ, zero, suc, ◌≤◌, ◌<◌, length, get_or}
use Rattle.model.specs.Lists.{those, empty, tabulate, before}
use Rattle.model.specs.Policy.{Association, association_fields}
use Rattle.model.specs.Contain.{contained}
use Rattle.model.specs.Rule.{gives}
use Rattle.model.specs.Explain.{lowest_association}
use Rattle.table.specs.Layout.{association_count}
use Rattle.table.specs.View.{policy_of, association_at}
use Rattle.rule.specs.Parts.{class_of}
use Rattle.rule.specs.declared.Asking.{Asking}

-- the association that a name names, zeros for none
abbrev pub named : (mem : List ℕ) (name : ℕ) → Association
named mem zero = record { attribute = 0; target = 0; rights = 0 }
named mem (suc i) = association_at mem i

-- association i is before association j "by user attribute, target, then rights as a number"
abbrev pub is_before : (mem : List ℕ) (i j : ℕ) → Bool
is_before mem i j = before (association_fields (association_at mem i)) (association_fields (association_at mem j))

-- association i is lower than what is named: it is before it, or none is named
unfoldable pub is_lower : (mem : List ℕ) (name i : ℕ) → Bool
is_lower mem zero i = true
is_lower mem (suc j) i = is_before mem i j

-- it is lower than what is named at its target
unfoldable pub is_lower_at_target : (mem : List ℕ) (i : ℕ) (names : List ℕ) → Bool
is_lower_at_target mem i names = is_lower mem (get_or names (association_at mem i).target 0) i

-- the name of the lower of a named association and association i
unfoldable pub lower_name : (mem : List ℕ) (name i : ℕ) → ℕ
lower_name mem name i = cond (is_lower mem name i) (suc i) name

-- a name for each class, of one of the first i associations or of none
pub record NamesOfFirst (i : ℕ) (names : List ℕ) : Type 0 where
  pub size : length names ≡ 512
  pub few : (c : ℕ) → c < 512 → get_or names c 0 ≤ i

-- each class that the target of association i is within names the lower one, every other class what it named
pub record LoweredAbove (mem : List ℕ) (i : ℕ) (names names' : List ℕ) : Type 0 where
  pub size : length names' ≡ 512
  pub is : (c : ℕ) → c < 512
      → get_or names' c 0 ≡ cond (contained (policy_of mem) (association_at mem i).target c) (lower_name mem (get_or names c 0) i) (get_or names c 0)

-- those of the first i associations that authorize the right in class c
abbrev pub authorizing : (mem : List ℕ) (q : Asking) (i c : ℕ) → List Association
authorizing mem q i c =
    those (gives (contained (policy_of mem) q.user) (contained (policy_of mem) q.element) (contained (policy_of mem)) q.right c) (tabulate i (association_at mem))

-- what each class names is the lowest of the first i associations that authorize the right in it, none where there is none
pub record LowestOfFirst (mem : List ℕ) (q : Asking) (i : ℕ) (names : List ℕ) : Type 0 where
  pub size : length names ≡ 512
  pub few : (c : ℕ) → c < 512 → get_or names c 0 ≤ i
  pub is : (c : ℕ) → c < 512 → named mem (get_or names c 0) ≡ lowest_association (authorizing mem q i c)
  pub none : (c : ℕ) → c < 512 → empty (authorizing mem q i c) ≡ true → get_or names c 0 ≡ 0

-- in each class of the element, what is named is the lowest association that authorizes the right there, none where there is none
pub record LowestOfClasses (mem : List ℕ) (q : Asking) (names : List ℕ) : Type 0 where
  pub size : length names ≡ 512
  pub few : (c : ℕ) → c < 512 → get_or names c 0 ≤ association_count mem
  pub is : (c : ℕ) → class_of (contained (policy_of mem) q.element) (policy_of mem) c ≡ true
      → named mem (get_or names c 0) ≡ lowest_association (authorizing mem q (association_count mem) c)
  pub none : (c : ℕ) → class_of (contained (policy_of mem) q.element) (policy_of mem) c ≡ true
      → empty (authorizing mem q (association_count mem) c) ≡ true → get_or names c 0 ≡ 0
