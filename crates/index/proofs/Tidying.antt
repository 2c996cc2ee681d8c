-- The rows of elements that are not there are cleared, child by child of the assignments.
-- Assumes nothing.
use mathlib.Core.Path.{◌≡◌, refl, ◌∙◌}
use mathlib.Core.List.{List}
use Prim.Native.Nat.{ℕ, ◌+◌, ◌*◌, ◌/◌, ◌%◌, ◌≤◌, ◌<◌}
use native.Mathlib.Omega.{arith}
use native.Mathlib.Decide.{dec_lt}
use Rattle.model.specs.Policy.{kind_of}
use Rattle.table.specs.Layout.{assignment_count, assignment_word}
use Rattle.table.specs.View.{policy_of}
use Rattle.table.specs.Facts.{Table, AmongFirst}
use Rattle.index.specs.Rows.{On, Cleared}
use Rattle.index.specs.Passes.{There, RowTidied, Tidied}
use Rattle.index.proofs.Rows.{cleared_off, cleared_old, cleared_kept, cleared_less}
use Rattle.index.proofs.Seeds.{kind_there, kind_absent}

-- the row of an element that is there stays
pub row_stays : {mem : List ℕ} {n : ℕ} {idx : List ℕ} {k : ℕ} → k ≡ kind_of (policy_of mem) n → (k ≡ 0 → ⊥) → RowTidied mem n idx idx
row_stays is d = record { size = refl; bytes = λ i. omega arith; old = λ p. p; there = λ p. kind_there is d; kept = λ t p. p }

-- the row of an element that is not there is cleared
pub row_goes : {mem : List ℕ} {n : ℕ} {idx : List ℕ} {k : ℕ} {idx' : List ℕ} → k ≡ kind_of (policy_of mem) n → k ≡ 0 → Cleared idx n 64 idx' → RowTidied mem n idx idx'
row_goes {mem} {n} {idx} {k} {idx'} is e o = record {
  size = o.size;
  bytes = cleared_less o;
  old = cleared_old o;
  there = λ p. absurd (cleared_off o p);
  kept = λ t p. cleared_kept o (λ q. kind_absent is e (rw q at t)) p;
}

-- no row is looked at yet
pub tidied_none : {mem idx : List ℕ} → Tidied mem 0 idx idx
tidied_none = record { size = refl; bytes = λ i. omega arith; old = λ p. p; there = λ a p. absurd (omega (arith, a.early)); kept = λ t p. p }

-- the row of one child more
pub tidied_more : {mem : List ℕ} {i : ℕ} {idx idx' idx'' : List ℕ} → Table mem → i < assignment_count mem → Tidied mem i idx idx'
    → RowTidied mem (assignment_word mem i / 512 % 512) idx' idx'' → Tidied mem (i + 1) idx idx''
tidied_more {mem} {i} {idx} {idx'} {idx''} table early t r = record {
  size = r.size ∙ t.size;
  bytes = λ i. omega (arith, r.bytes i, t.bytes i);
  old = λ p. t.old (r.old p);
  there = there;
  kept = λ l p. r.kept l (t.kept l p);
}
  where
    there : {x y z : ℕ} → AmongFirst mem (i + 1) x z → On idx'' x y → There mem x
    there {x} {y} {z} a p = elim (dec_lt a.at i) [
      | yes b ↦ t.there (record { at = a.at; early = b; is = a.is; small = a.small }) (r.old p)
      | no b ↦
          let l : a.at ≡ i = omega (arith, a.early) in
          let w : assignment_word mem i ≡ x * 512 + z = rw l at a.is in
          let e : assignment_word mem i / 512 % 512 ≡ x = omega (arith, a.small, table.small i early) in
          rw (← e) (r.there (rw (← e) at p))
    ]

-- the rows of all children
pub tidied_end : {mem : List ℕ} {i : ℕ} {idx idx' : List ℕ} → Tidied mem i idx idx' → i ≤ assignment_count mem → assignment_count mem ≤ i
    → Tidied mem (assignment_count mem) idx idx'
tidied_end {mem} {i} {idx} {idx'} t h l = let e : i ≡ assignment_count mem = omega arith in rw e at t
