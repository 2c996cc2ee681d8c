-- What is promised of a right that is asked over an element: what lacks for it to be held, and whether it is held and not restricted.
-- Assumes nothing.
use Rattle.std.specs.Prelude.{◌≡◌, Bool, true, not, cond, ◌&&◌, List, ℕ, eqb, length}
use Rattle.model.specs.Lists.{those}
use Rattle.model.specs.Policy.{Policy}
use Rattle.model.specs.Contain.{contained}
use Rattle.model.specs.Index.{bit_at}
use Rattle.model.specs.Rule.{classes_of, given_in, held_by, held, restricted}
use Rattle.model.specs.Explain.{least_or0}
use Rattle.table.specs.View.{policy_of}
use Rattle.rule.specs.Sight.{seen}
use Rattle.rule.specs.declared.Asking.{Asking}
use Rattle.held.specs.declared.Holding.{Holding}
use Rattle.held.specs.declared.Holding.TheVariants.{Held, NoClass, LackedIn}

-- what lacks for the right to be held: 512 where it is held, else the lowest class in which no association gives it, 0 where there is no class
unfoldable pub lack_of : (U E : ℕ → Bool) (T : ℕ → ℕ → Bool) → Policy → (r : ℕ) → ℕ
lack_of U E T p r = cond (held_by U E T p r) 512 (least_or0 (those (λ c. not (given_in U E T p r c)) (classes_of E p)))

-- the same, by the containment W
abbrev pub lack_by : (W : ℕ → ℕ → Bool) → Policy → (u r e : ℕ) → ℕ
lack_by W p u r e = lack_of (W u) (W e) W p r

-- what that number says
abbrev pub as_holding : ℕ → Holding
as_holding n = cond (eqb n 512) Held (cond (eqb n 0) NoClass (LackedIn n))

-- the containment that is meant: "those bits read as containment", or chains of assignments
unfoldable pub sight : (mem rows : List ℕ) (indexed : Bool) (x y : ℕ) → Bool
sight mem rows indexed x y = cond indexed (bit_at rows x y) (contained (policy_of mem) x y)

-- the rows say what is meant, of the user and of the element; those of an index are all there
pub record Rows (mem rows : List ℕ) (indexed : Bool) (q : Asking) : Type 0 where
  pub whole : indexed ≡ true → length rows ≡ 32768
  pub user : (y : ℕ) → seen rows indexed q.by y ≡ sight mem rows indexed q.user y
  pub element : (y : ℕ) → seen rows indexed q.over y ≡ sight mem rows indexed q.element y

-- "the right held and not restricted"
unfoldable pub permits : (W : ℕ → ℕ → Bool) → Policy → (process u r e : ℕ) → Bool
permits W p process u r e = held W p u r e && not (restricted W p process u r e)
