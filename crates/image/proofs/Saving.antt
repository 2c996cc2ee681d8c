-- What save answers and leaves, return by return.
-- Assumes nothing.
use mathlib.Core.Path.{◌≡◌, sym, ap₂, ◌∙◌}
use mathlib.Core.Bool.{Bool, true, false, not}
use mathlib.Core.List.{List, ◌++◌}
use Prim.Native.Nat.{ℕ, ◌-◌, ◌≤◌, ◌<◌}
use native.Mathlib.Omega.{arith}
use borrow.Author.Tests.{lt-ltb, le-ltb, not-true, not-false}
use borrow.Rule.Slice.PartMut.{post_of}
use lib.ListN.{length, drop}
use Rattle.model.specs.Refusal.{answer}
use Rattle.model.specs.Image.{image_of}
use Rattle.model.specs.Calls.{kept, save}
use Rattle.table.specs.View.{holds_table, policy_of, memory}
use Rattle.table.specs.Facts.{AtMost}
use Rattle.std.specs.Prelude.{Ok, Err}
use Rattle.answer.specs.declared.Refusal.TheVariants.{NoTable, NoRoom}
use Rattle.answer.specs.Answers.{told}
use Rattle.image.specs.Answers.{left}

module _ (mem out : List ℕ) where
  -- the memory holds no table
  pub no_table_lem : {t : Bool} → t ≡ holds_table mem → not t ≡ true → left (Err NoTable) out ≡ save (memory mem) out
  unfolding save told answer kept
  no_table_lem {t} e f = let n : holds_table mem ≡ false = sym e ∙ not-true t f in rw n

  -- the bytes are too few
  pub no_room : {t : Bool} {n : ℕ} → t ≡ holds_table mem → not t ≡ false → AtMost (length (image_of (policy_of mem))) 15115 n → length out < n
      → left (Err NoRoom) out ≡ save (memory mem) out
  unfolding save told answer kept
  no_room {t} {n} e f a h =
      let k : holds_table mem ≡ true = sym e ∙ not-false t f in
      rw (k, lt-ltb (length out) (length (image_of (policy_of mem))) (let i = a.is in omega arith))

  -- the image stands in front of the other bytes
  pub image_saved : {t : Bool} {n : ℕ} {part : List ℕ} → t ≡ holds_table mem → not t ≡ false → AtMost (length (image_of (policy_of mem))) 15115 n → n ≤ length out
      → part ≡ image_of (policy_of mem) → left (Ok n) (part ++ post_of 0 (n - 0) out) ≡ save (memory mem) out
  unfolding save told answer kept
  image_saved {t} {n} {part} e f a h p =
      let y : holds_table mem ≡ true = sym e ∙ not-false t f in
      let d : n - 0 ≡ length (image_of (policy_of mem)) = let i = a.is in omega arith in
      let q : part ++ drop (n - 0) out ≡ image_of (policy_of mem) ++ drop (length (image_of (policy_of mem))) out = ap₂ (λ (x : List ℕ) (i : ℕ). x ++ drop i out) p d in
      rw (y, le-ltb (length out) (length (image_of (policy_of mem))) (let i = a.is in omega arith), q, a.is)
