-- What the calls of the index answer: one law for each of their answers.
-- Assumes nothing.
use mathlib.Core.Path.{◌≡◌, refl, sym, ◌∙◌}
use mathlib.Core.Bool.{Bool, true, false, not}
use mathlib.Core.List.{List}
use Prim.Native.Nat.{ℕ}
use borrow.Author.Tests.{not-true, not-false, eq-eqb, ne_eqb}
use lib.ListN.{length}
use Rattle.model.specs.Lists.{same}
use Rattle.model.specs.Refusal.{answer}
use Rattle.model.specs.Index.{index_of}
use Rattle.model.specs.Calls.{kept, build, is_index}
use Rattle.table.specs.View.{holds_table, policy_of, memory}
use Rattle.std.specs.Prelude.{Ok, Err}
use Rattle.answer.specs.declared.Refusal.TheVariants.{NoTable, OutOfRange}
use Rattle.answer.specs.Answers.{told}
use Rattle.index.specs.Answers.{left, matched}

module _ (mem idx : List ℕ) {r : Bool} (e : r ≡ holds_table mem) (n : not r ≡ true) where
  -- no table: building is refused with 1
  pub build_no_table : left (Err NoTable) idx ≡ build (memory mem) idx
  unfolding told build answer kept
  build_no_table = rw (sym e ∙ not-true r n) refl

  -- so is the comparison
  pub match_no_table : matched (Err NoTable) ≡ is_index (memory mem) idx
  unfolding told is_index answer
  match_no_table = rw (sym e ∙ not-true r n) refl

module _ (mem idx : List ℕ) {r : Bool} (e : r ≡ holds_table mem) (n : not r ≡ false) where
  module _ (d : length idx ≡ 32768 → ⊥) where
    -- another length: building is refused with 2
    pub build_bad_index : left (Err OutOfRange) idx ≡ build (memory mem) idx
    unfolding told build answer kept
    build_bad_index = rw (sym e ∙ not-false r n, ne_eqb (length idx) 32768 d) refl

    -- so is the comparison
    pub match_bad_index : matched (Err OutOfRange) ≡ is_index (memory mem) idx
    unfolding told is_index answer
    match_bad_index = rw (sym e ∙ not-false r n, ne_eqb (length idx) 32768 d) refl

  module _ (d : length idx ≡ 32768) where
    -- the index is built
    pub build_done : {idx' : List ℕ} → idx' ≡ index_of (policy_of mem) → left (Ok tt) idx' ≡ build (memory mem) idx
    unfolding told build answer kept
    build_done f = rw (f, sym e ∙ not-false r n, eq-eqb (length idx) 32768 d) refl

    module _ {s : Bool} (f : s ≡ same idx (index_of (policy_of mem))) where
      -- the bytes are compared with the table's index
      pub match_told : matched (Ok s) ≡ is_index (memory mem) idx
      unfolding told is_index answer
      match_told = rw (sym e ∙ not-false r n, eq-eqb (length idx) 32768 d, f) refl
