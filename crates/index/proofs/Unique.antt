-- The contracts determine the answer and every byte: two results that a contract allows are the same.
-- Assumes nothing.
use mathlib.Core.Path.{◌≡◌, sym, ap, ◌∙◌}
use mathlib.Core.List.{List}
use Prim.Native.Nat.{ℕ}
use Rattle.model.specs.Calls.{Building, build, is_index}
use Rattle.table.specs.View.{memory}
use Rattle.std.specs.Prelude.{Bool, Result}
use Rattle.answer.specs.declared.Refusal.{Refusal}
use Rattle.answer.proofs.Told.{one_told}
use Rattle.table.proofs.Outcomes.{one_outcome}
use Rattle.index.specs.Answers.{left, matched}

module _ (mem idx : List ℕ) where
  -- `build` has one outcome and leaves one index
  pub build_unique : {r s : Result (Unit {0}) Refusal} {l m : List ℕ} → left r l ≡ build (memory mem) idx → left s m ≡ build (memory mem) idx → (r ≡ s) × (l ≡ m)
  build_unique {r} {s} {l} {m} p q =
      let e : left r l ≡ left s m = p ∙ sym q in
      (one_outcome r s l m (ap (λ (b : Building). b.answers) e), ap (λ (b : Building). b.index) e)

  -- `is_index` has one answer
  pub is_index_unique : {r s : Result Bool Refusal} → matched r ≡ is_index (memory mem) idx → matched s ≡ is_index (memory mem) idx → r ≡ s
  is_index_unique {r} {s} p q = one_told (λ b. b) (λ x y e. e) r s (p ∙ sym q)
