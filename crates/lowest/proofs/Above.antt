-- Names lowered class by class, in each class that the target of an association is within.
-- Assumes nothing.
use mathlib.Core.Path.{◌≡◌, refl, ap, ◌∙◌}
use mathlib.Core.Bool.{Bool, true, false, cond}
use mathlib.Core.List.{List}
use Prim.Native.Nat.{ℕ, ◌+◌, ◌≤◌, ◌<◌}
use native.Mathlib.Omega.{arith}
use lib.Dec.{eqb}
use lib.ListN.{get_or, set}
use Rattle.model.specs.Bits.{digit}
use Rattle.model.specs.Contain.{contained}
use Rattle.table.specs.View.{policy_of, association_at}
use Rattle.climb.specs.Marking.{marks_of}
use Rattle.climb.proofs.Exactly.{mark_digit}
use Rattle.lowest.specs.Named.{lower_name, LoweredAbove}
use Rattle.lowest.proofs.Setting.{SetTo, set_more}

-- what class c names then
unfoldable pub lowered_at : (mem : List ℕ) (i : ℕ) (names : List ℕ) (c : ℕ) → ℕ
lowered_at mem i names c = cond (contained (policy_of mem) (association_at mem i).target c) (lower_name mem (get_or names c 0) i) (get_or names c 0)

-- the mark of a class says which name it keeps
pub by_mark : (b : Bool) (x y : ℕ) → cond (eqb (digit b) 0) x y ≡ cond b y x
unfolding digit
by_mark true x y = refl
by_mark false x y = refl

-- one class more is lowered
pub lowered_more : (mem : List ℕ) (i : ℕ) {n : ℕ} {names names' m : List ℕ} {t r : ℕ} → SetTo (lowered_at mem i names) n names names' → n < 512
    → t ≡ (association_at mem i).target → m ≡ marks_of mem t → r ≡ cond (eqb (get_or m n 0) 0) (get_or names' n 0) (lower_name mem (get_or names' n 0) i)
    → SetTo (lowered_at mem i names) (n + 1) names (set names' n r)
unfolding lowered_at
lowered_more mem i {n} {names} {names'} {m} {t} {r} l h et em er = set_more l h here
  where
    mark : get_or m n 0 ≡ digit (contained (policy_of mem) (association_at mem i).target n)
    mark = ap (λ (l : List ℕ). get_or l n 0) (em ∙ ap (marks_of mem) et) ∙ mark_digit mem (association_at mem i).target n h

    old : get_or names' n 0 ≡ get_or names n 0
    old = l.rest n (omega arith)

    here : r ≡ lowered_at mem i names n
    here = er ∙ (rw (mark, old) (by_mark (contained (policy_of mem) (association_at mem i).target n) (get_or names n 0) (lower_name mem (get_or names n 0) i)))

-- all are
pub lowered_all : (mem : List ℕ) (i : ℕ) {n : ℕ} {names names' : List ℕ} → SetTo (lowered_at mem i names) n names names' → 512 ≤ n → LoweredAbove mem i names names'
unfolding lowered_at
lowered_all mem i l h = record { size = l.size; is = λ c k. l.done c (omega arith) }
