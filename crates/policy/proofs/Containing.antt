-- What the calls about containment answer where no line refuses them: whether x is within y, whether the bytes are the index, and the index itself,
-- bit by bit.
-- Assumes nothing.
use mathlib.Core.Path.{◌≡◌, sym, ap, ◌∙◌}
use mathlib.Core.Bool.{true, false, ◌&&◌}
use mathlib.Core.List.{List}
use mathlib.Core.Logic.{◌↔◌, inl}
use Prim.Native.Nat.{ℕ, ◌<◌}
use native.Mathlib.Omega.{arith}
use Rattle.model.specs.Lists.{same}
use Rattle.model.specs.Policy.{is_there}
use Rattle.model.specs.Contain.{Within, contained}
use Rattle.model.specs.Refusal.{None, accepted}
use Rattle.model.specs.Index.{index_bit, index_of, bit_at, index_lines, contain_lines}
use Rattle.model.specs.Calls.{Building, lent, build, is_index, contains}
use Rattle.model.proofs.Truth.{clash, and_cut, and_join, fails_when}
use Rattle.model.proofs.Order.{same_equal, equal_same, other_same}
use Rattle.model.proofs.Contained.{within_says, within_when}
use Rattle.model.proofs.Refusals.{none_accepted, accepted_none}
use Rattle.model.proofs.Indexed.{index_bit_lem, index_zero_row, index_zero_column}
use Rattle.table.specs.View.{holds_table, policy_of, memory}
use Rattle.table.specs.Answers as table
use Rattle.std.specs.Prelude.{Bool, Result, Ok}
use Rattle.answer.specs.declared.Refusal.{Refusal}
use Rattle.answer.specs.Answers as result
use Rattle.table.proofs.Outcomes.{one_outcome}
use Rattle.table.proofs.ById.{kind_outside}
use Rattle.climb.specs.Answers as climb
use Rattle.climb.proofs.Answered as climbed
use Rattle.index.specs.Answers as index
use Rattle.index.proofs.Unique.{is_index_unique}
use Rattle.policy.specs.Allows as allows

-- contains: any words, any two numbers, any result
module _ (words : List ℕ) (x y : ℕ) (r : Result Bool Refusal) (e : allows.contains words x y r) where
  -- within exactly if no line holds and x is within y
  pub contains_within : (r ≡ (Ok true))
      ↔ (None (contain_lines (holds_table words) (policy_of words) x y) × Within (policy_of words).assignments x y)
  unfolding contains result.told
  contains_within =
      let lines = contain_lines (holds_table words) (policy_of words) x y in
      let is_Within = contained (policy_of words) x y in (
        λ h. let c = accepted_none is_Within lines (sym e ∙ ap climb.told h) in (c.0, within_says (policy_of words).assignments (sym c.1)),
        λ p. climbed.unique r (Ok true) (e ∙ none_accepted is_Within p.0 ∙ ap accepted (within_when (policy_of words).assignments p.1)),
      )

  -- outside exactly if no line holds and x is not within y
  pub contains_outside : (r ≡ (Ok false))
      ↔ (None (contain_lines (holds_table words) (policy_of words) x y) × (Within (policy_of words).assignments x y → ⊥))
  unfolding contains result.told
  contains_outside =
      let lines = contain_lines (holds_table words) (policy_of words) x y in
      let is_Within = contained (policy_of words) x y in (
        λ h. let c = accepted_none is_Within lines (sym e ∙ ap climb.told h) in (c.0, λ w. clash (within_when (policy_of words).assignments w) (sym c.1)),
        λ p. climbed.unique r (Ok false)
            (e ∙ none_accepted is_Within p.0 ∙ ap accepted (fails_when is_Within (λ t. p.1 (within_says (policy_of words).assignments t)))),
      )

-- is_index: any words, any bytes, any result
module _ (words bytes : List ℕ) (r : Result Bool Refusal) (e : allows.is_index words bytes r) where
  -- the same exactly if no line holds and each byte is the index's
  pub is_index_same : (r ≡ Ok true) ↔ (None (index_lines (lent (memory words) bytes)) × (bytes ≡ index_of (policy_of words)))
  unfolding is_index result.told
  is_index_same =
      let lines = index_lines (lent (memory words) bytes) in
      let same-as = same bytes (index_of (policy_of words)) in (
        λ h. let c = accepted_none same-as lines (sym e ∙ ap index.matched h) in (c.0, same_equal bytes (index_of (policy_of words)) (sym c.1)),
        λ p. is_index_unique words bytes e (sym (none_accepted same-as p.0 ∙ ap accepted (equal_same bytes (index_of (policy_of words)) p.1))),
      )

  -- another exactly if no line holds and some byte is not
  pub is_index_other : (r ≡ Ok false) ↔ (None (index_lines (lent (memory words) bytes)) × (bytes ≡ index_of (policy_of words) → ⊥))
  unfolding is_index result.told
  is_index_other =
      let lines = index_lines (lent (memory words) bytes) in
      let same-as = same bytes (index_of (policy_of words)) in (
        λ h. let c = accepted_none same-as lines (sym e ∙ ap index.matched h) in (c.0, λ w. clash (equal_same bytes (index_of (policy_of words)) w) (sym c.1)),
        λ p. is_index_unique words bytes e (sym (none_accepted same-as p.0 ∙ ap accepted (other_same bytes (index_of (policy_of words)) p.1))),
      )

-- 0 is no element of any words
zero_nowhere : (words : List ℕ) → is_there (policy_of words) 0 ≡ false
unfolding is_there
zero_nowhere words = rw (sym (kind_outside words 0 (inl (omega arith))))

-- build_index: any words, any bytes, any result, and the bytes that it leaves
module _ (words bytes bytes' : List ℕ) (r : Result (Unit {0}) Refusal) (e : allows.build_index words bytes r bytes') where
  -- what it says
  said : table.told r bytes' ≡ (build (memory words) bytes).answers
  said = ap (λ (b : Building). b.answers) e

  -- it is done exactly if no line holds
  pub build_done : (r ≡ Ok tt) ↔ None (index_lines (lent (memory words) bytes))
  unfolding build result.told
  build_done =
      let lines = index_lines (lent (memory words) bytes) in
      let made = index_of (policy_of words) in (
        λ h. (accepted_none made lines (sym said ∙ ap (λ (s : Result (Unit {0}) Refusal). table.told s bytes') h)).0,
        λ f. one_outcome r (Ok tt) bytes' made (said ∙ none_accepted made f),
      )

  -- then each byte is the index's
  pub build_index_of : r ≡ Ok tt → bytes' ≡ index_of (policy_of words)
  unfolding build result.told
  build_index_of h =
      (accepted_none (index_of (policy_of words)) (index_lines (lent (memory words) bytes)) (sym said ∙ ap (λ (s : Result (Unit {0}) Refusal). table.told s bytes') h)).1

  -- and each bit is 1 exactly if both elements are there and the first is within the second
  pub build_bit : r ≡ Ok tt → (x y : ℕ) → x < 512 → y < 512 → (bit_at bytes' x y ≡ true)
      ↔ ((is_there (policy_of words) x ≡ true) × (is_there (policy_of words) y ≡ true) × Within (policy_of words).assignments x y)
  unfolding index_bit
  build_bit h x y hx hy =
      let p = policy_of words in
      let is : bit_at bytes' x y ≡ index_bit p x y = ap (λ (l : List ℕ). bit_at l x y) (build_index_of h) ∙ index_bit_lem p x y hx hy in (
        λ t.
            let c = and_cut (is_there p x && is_there p y) (contained p x y) (sym is ∙ t) in
            let d = and_cut (is_there p x) (is_there p y) c.0 in
            (d.0, d.1, within_says p.assignments c.1),
        λ c. is ∙ and_join (is_there p x && is_there p y) (contained p x y) (and_join (is_there p x) (is_there p y) c.0 c.1) (within_when p.assignments c.2),
      )

  -- row 0 is zero
  pub build_zero_row : r ≡ Ok tt → (y : ℕ) → y < 512 → bit_at bytes' 0 y ≡ false
  build_zero_row h y hy =
      ap (λ (l : List ℕ). bit_at l 0 y) (build_index_of h) ∙ index_bit_lem (policy_of words) 0 y (omega arith) hy ∙ index_zero_row (policy_of words) (zero_nowhere words) y

  -- so is column 0
  pub build_zero_column : r ≡ Ok tt → (x : ℕ) → x < 512 → bit_at bytes' x 0 ≡ false
  build_zero_column h x hx =
      ap (λ (l : List ℕ). bit_at l x 0) (build_index_of h) ∙ index_bit_lem (policy_of words) x 0 hx (omega arith) ∙ index_zero_column (policy_of words) (zero_nowhere words) x
