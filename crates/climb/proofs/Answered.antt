-- What the plain containment call answers: each of its returns, and that no two answers mean the same.
-- Assumes nothing.
use mathlib.Core.Path.{◌≡◌, refl, sym, ap, ◌∙◌}
use mathlib.Core.Bool.{Bool, true, false, not, ◌&&◌}
use mathlib.Core.List.{List}
use Prim.Native.Nat.{ℕ, ◌<◌}
use borrow.Author.Tests.{not-true, not-false}
use lib.Dec.{eqb}
use lib.ListN.{get_or}
use Rattle.model.specs.Policy.{is_element_id, is_there}
use Rattle.model.specs.Refusal.{accepted, answer}
use Rattle.model.specs.Contain.{contained}
use Rattle.model.specs.Bits.{digit}
use Rattle.model.specs.Calls.{contains}
use Rattle.table.specs.View.{holds_table, policy_of, memory}
use Rattle.table.proofs.Asked.{not_both, both}
use Rattle.climb.specs.Marking.{marks_of}
use Rattle.std.specs.Prelude.{Result, Ok, Err}
use Rattle.answer.specs.declared.Refusal.{Refusal}
use Rattle.answer.specs.declared.Refusal.TheVariants.{NoTable, OutOfRange, NotThere}
use Rattle.answer.specs.Answers as answers
use Rattle.answer.proofs.Told.{one_told}
use Rattle.climb.specs.Answers.{told}
use Rattle.climb.proofs.Exactly.{mark_digit}

-- the mark of y tells whether x is within y
pub told_mark : (mem : List ℕ) (x y : ℕ) {m : List ℕ} → m ≡ marks_of mem x → y < 512 → eqb (get_or m y 0) 1 ≡ contained (policy_of mem) x y
unfolding digit
told_mark mem x y e h = ap (λ (l : List ℕ). eqb (get_or l y 0) 1) e ∙ ap (λ n. eqb n 1) (mark_digit mem x y h) ∙ is_one (contained (policy_of mem) x y)
  where
    is_one : (b : Bool) → eqb (digit b) 1 ≡ b
    is_one true = refl
    is_one false = refl

-- The call's returns: what was told of the table, of the two ids and of the two elements, in this order.
module _ (mem : List ℕ) (x y : ℕ) {r : Bool} (e : r ≡ holds_table mem) where
  -- there is no table
  pub told_no_table : not r ≡ true → told (Err NoTable) ≡ contains (memory mem) x y
  unfolding answers.told contains answer
  told_no_table h = rw (sym e ∙ not-true r h)

  module _ (h : not r ≡ false) {s : Bool} (f : s ≡ (is_element_id x && is_element_id y)) where
    -- one of the two is no id
    pub told_no_id : not s ≡ true → told (Err OutOfRange) ≡ contains (memory mem) x y
    unfolding answers.told contains answer
    told_no_id i = rw (sym e ∙ not-false r h, not_both (is_element_id x) (is_element_id y) (sym f ∙ not-true s i))

    module _ (i : not s ≡ false) {t : Bool} (g : t ≡ (is_there (policy_of mem) x && is_there (policy_of mem) y)) where
      -- one of the two elements is not there
      pub told_absent : not t ≡ true → told (Err NotThere) ≡ contains (memory mem) x y
      unfolding answers.told contains answer
      told_absent j =
          rw
          (sym e ∙ not-false r h, both (is_element_id x) (is_element_id y) (sym f ∙ not-false s i), not_both (is_there (policy_of mem) x) (is_there (policy_of mem) y) (sym g ∙ not-true t j))

      -- nothing is to be refused
      pub told_containment : not t ≡ false → {c : Bool} → c ≡ contained (policy_of mem) x y → told (Ok c) ≡ contains (memory mem) x y
      unfolding answers.told contains answer
      told_containment j q =
          rw (
            sym e ∙ not-false r h,
            both (is_element_id x) (is_element_id y) (sym f ∙ not-false s i),
            both (is_there (policy_of mem) x) (is_there (policy_of mem) y) (sym g ∙ not-false t j),
          )
          (ap accepted q)

-- no two answers are told the same: the contract allows one result
pub unique : (c d : Result Bool Refusal) → told c ≡ told d → c ≡ d
unique c d e = one_told (λ b. b) (λ x y e. e) c d e
