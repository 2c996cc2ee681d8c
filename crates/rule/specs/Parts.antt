-- The parts of the rule as the code asks for them: for one class, one association, the ids that one prohibition lists.
-- Assumes nothing.
use Rattle.std.specs.Prelude.{Bool, not, cond, ◌&&◌, List, ℕ, ◌+◌, eqb}
use Rattle.model.specs.Lists.{any_of, tabulate}
use Rattle.model.specs.Policy.{Association, Policy, class, has_right, kind_of}
use Rattle.table.specs.Layout.{word}

-- c is a class that the element is within
unfoldable pub class_of : (E : ℕ → Bool) → Policy → (c : ℕ) → Bool
class_of E p c = eqb (kind_of p c) class && E c

-- the association has the user within its attribute, the right in its set, and the element within its target
unfoldable pub offers : (U E : ℕ → Bool) (r : ℕ) → Association → Bool
offers U E r a = U a.attribute && has_right a.rights r && E a.target

-- of n ids that the prohibition which starts at a word lists, from id `from` on, the row says `so` of some
unfoldable pub any_listed : (E : ℕ → Bool) (so : Bool) (mem : List ℕ) (start from n : ℕ) → Bool
any_listed E so mem start from n = any_of (λ y. cond so (E y) (not (E y))) (tabulate n (λ k. word mem (start + 3 + (from + k))))
