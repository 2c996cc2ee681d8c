-- Ranks as they are made: one child lifted, and all of them, in the assignments' order and against it.
-- Assumes nothing.
use mathlib.Core.Path.{◌≡◌, refl, sym, ap, ◌∙◌}
use mathlib.Core.Bool.{or-true}
use mathlib.Core.List.{List}
use Prim.Native.Nat.{ℕ, suc, ◌+◌, ◌-◌, ◌/◌, ◌≤◌, ◌<◌}
use native.Mathlib.Omega.{arith}
use borrow.Author.Tests.{lt-ltb, le-ltb}
use lib.Dec.{ltb}
use lib.ListN.{get_or, set, replicate}
use lib.Seq.{set-get_or}
use Rattle.table.specs.Layout.{assignment_count, assignment_word}
use Rattle.table.specs.View.{assignment_at}
use Rattle.table.specs.Facts.{Table}
use Rattle.links.specs.Ranks.{above, lifted, lifted_up, lifted_down, ranks_of}

-- a child is below 512
pub child_low : {mem : List ℕ} → Table mem → {i : ℕ} → i < assignment_count mem → {x : ℕ} → x ≡ assignment_word mem i / 512 → x < 512
child_low t {i} l e = omega (arith, t.small i l)

-- the same, where n assignments are counted
pub counted_low : {mem : List ℕ} → Table mem → {n : ℕ} → n ≡ assignment_count mem → {i : ℕ} → i < n → {x : ℕ} → x ≡ assignment_word mem i / 512 → x < 512
counted_low t count {i} l e = child_low t (omega arith) e

-- One child is lifted: x is assignment i's child, y its container.
module _ (mem ranks : List ℕ) (i : ℕ) {y : ℕ} (d : y ≡ (assignment_at mem i).container) {x : ℕ} (e : x ≡ (assignment_at mem i).child) where
  -- what its rank becomes
  becomes : {r : ℕ} → above (get_or ranks y 0) (get_or ranks x 0) ≡ r → set ranks x r ≡ lifted mem i ranks
  unfolding lifted
  becomes {r} h = rw (← d, ← e) (ap (set ranks x) (sym h))

  -- it is higher already
  pub lift_higher : get_or ranks y 0 < get_or ranks x 0 → ranks ≡ lifted mem i ranks
  unfolding above
  lift_higher h = sym (set-get_or ranks x 0) ∙ becomes (rw (lt-ltb (get_or ranks y 0) (get_or ranks x 0) h))

  -- there is no higher rank
  pub lift_top : 511 < get_or ranks y 0 → ranks ≡ lifted mem i ranks
  unfolding above
  lift_top h = sym (set-get_or ranks x 0) ∙ becomes (rw (lt-ltb 511 (get_or ranks y 0) h, or-true (ltb (get_or ranks y 0) (get_or ranks x 0))))

  -- it becomes the next
  pub lift_next : get_or ranks x 0 ≤ get_or ranks y 0 → get_or ranks y 0 ≤ 511 → set ranks x (get_or ranks y 0 + 1) ≡ lifted mem i ranks
  unfolding above
  lift_next h l =
      let s : suc (get_or ranks y 0) ≡ get_or ranks y 0 + 1 = omega arith in
      becomes (rw (le-ltb (get_or ranks y 0) (get_or ranks x 0) h, le-ltb 511 (get_or ranks y 0) l) s)

-- the first i children are lifted
pub record Risen (mem : List ℕ) (i : ℕ) (ranks : List ℕ) : Type 0 where
  pub inside : i ≤ assignment_count mem
  pub is : ranks ≡ lifted_up mem i (replicate 512 0)

-- all are, and against the order those from i on
pub record Sunk (mem : List ℕ) (i : ℕ) (ranks : List ℕ) : Type 0 where
  pub inside : i ≤ assignment_count mem
  pub rest : lifted_down mem i ranks ≡ ranks_of mem

module _ (mem : List ℕ) where
  -- none is lifted yet
  pub risen_none : Risen mem 0 (replicate 512 0)
  unfolding lifted_up
  risen_none = record { inside = omega arith; is = refl }

  -- one more is
  pub risen_more : {n : ℕ} → n ≡ assignment_count mem → {i : ℕ} → i < n → {ranks : List ℕ} → Risen mem i ranks
      → {more : List ℕ} → more ≡ lifted mem i ranks → Risen mem (i + 1) more
  unfolding lifted_up
  risen_more count {i} l {ranks} r {more} e =
      let s : i + 1 ≡ suc i = omega arith in
      record { inside = omega arith; is = rw s (e ∙ ap (lifted mem i) r.is) }

  -- all are
  pub risen_all : {n : ℕ} → n ≡ assignment_count mem → {i : ℕ} → n ≤ i → {ranks : List ℕ} → Risen mem i ranks → Sunk mem n ranks
  unfolding ranks_of
  risen_all {n} count {i} l {ranks} r =
      let s : assignment_count mem ≡ n = omega arith in
      let e : i ≡ n = omega (arith, r.inside) in
      record { inside = omega arith; rest = rw s (ap (lifted_down mem n) (rw e at r.is)) }

  -- one more is, against the order
  pub sunk_more : {i : ℕ} → 0 < i → {ranks : List ℕ} → Sunk mem i ranks → {more : List ℕ} → more ≡ lifted mem (i - 1) ranks → Sunk mem (i - 1) more
  unfolding lifted_down
  sunk_more {i} l {ranks} r {more} e =
      let s : i ≡ suc (i - 1) = omega arith in
      let t : lifted_down mem (suc (i - 1)) ranks ≡ ranks_of mem = rw (← s) r.rest in
      record { inside = omega (arith, r.inside); rest = ap (lifted_down mem (i - 1)) e ∙ t }

  -- all are, both ways
  pub sunk_all : {i : ℕ} → i ≤ 0 → {ranks : List ℕ} → Sunk mem i ranks → ranks ≡ ranks_of mem
  unfolding lifted_down
  sunk_all {i} l {ranks} r = let s : i ≡ 0 = omega arith in rw s at r.rest
